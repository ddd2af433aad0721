-- A call leaves a state without marks, from its decoding on, and a program is loaded without marks.
use Rattle.std.proofs.Common.{◌≡◌, ℕ, ◌+◌, ◌-◌, ◌/◌, Bool, true, false, not, List, [], ◌∷◌, cond, Option, Some, None, Result, Ok, Err, IfOk, refl}
use Rattle.std.specs.Prelude.{neg_ℤ, pos}
use Rattle.std.specs.List.{AllByRecursion, list_all}
use Rattle.std.specs.Option.{option_map_or}
use Rattle.kr_core.specs.pr_base.Errno.{errno_number}
use Rattle.kr_core.specs.pr_base.declared.errno.Errno.{Errno}
use Rattle.kr_core.specs.pr_base.declared.errno.Errno.TheVariants.{ENOENT, ENOMEM}
use Rattle.kr_core.specs.rv_mem.Actions.{Action, CarriedOut, Done, MayUse, ReadBytes, WriteBytes, allows_uses, carried_out}
use Rattle.kr_core.specs.rv_mem.Memory.{Memory, after_read, empty_memory, with_pages}
use Rattle.kr_core.specs.rv_mem.Pages.{Pages, bytes_from, mapped, written}
use Rattle.kr_core.specs.rv_mem.declared.regs.Regs.{Regs}
use Rattle.kr_core.specs.elf_read.Plans.{planned}
use Rattle.kr_core.specs.elf_read.Rules.{page_size}
use Rattle.kr_core.specs.elf_read.declared.plan.Plan.{Plan}
use Rattle.kr_core.specs.elf_read.declared.plan.Segment.{Segment}
use Rattle.kr_core.specs.elf_load.FirstStack.{pairs_of, stack_bytes, stack_pointer, stack_top}
use Rattle.kr_core.specs.elf_load.Image.{end_page, file_bytes, first_page, image_pages, rights_in, stack_pages, stack_rights, with_segment, with_segments, with_stack}
use Rattle.kr_core.specs.kr_exec.Exec.{exec_plan}
use Rattle.kr_core.specs.kr_exec.Interpreters.{bytes_at}
use Rattle.kr_core.specs.kr_exec.Lists.{Trying, and_then, lists_at}
use Rattle.kr_core.specs.kr_exec.declared.lists.Lists.{Lists}
use Rattle.kr_core.specs.kr_exec.declared.plan.ExecPlan.{ExecPlan}
use Rattle.kr_core.specs.kr_execve.Execution.{Program, after_execution, changes_of, exceeds, execution, execution_from, found_from, ids_of, loaded, mount_of, planned_from, program_of}
use Rattle.kr_core.specs.kr_view.View.{Row}
use Rattle.kr_core.specs.kr_view.Walk.{PlaceTarget}
use Rattle.kr_core.specs.kr_calls.CallTable.{line, makes_at_all}
use Rattle.kr_core.specs.kr_calls.Decoding.{decoding}
use Rattle.kr_core.specs.kr_calls.Kinds.{Kind, ReplacesImage}
use Rattle.kr_core.specs.kr_calls.declared.request.Request.{Request}
use Rattle.kr_core.specs.kr_calls.declared.request.Request.TheVariants as call
use Rattle.kr_core.specs.kr_tree.declared.place.Place.{Place}
use Rattle.kr_core.specs.kr_model.Applied.{Mounts, cwd_of, with_image, with_living}
use Rattle.kr_core.specs.kr_model.Change.{Change, ReplaceImage}
use Rattle.kr_core.specs.kr_model.ChangeKinds.{kind}
use Rattle.kr_core.specs.kr_model.Known.{known}
use Rattle.kr_core.specs.kr_model.Operation.{operation}
use Rattle.kr_core.specs.kr_model.Reply.{Reply}
use Rattle.kr_core.specs.kr_model.State.{Image, Process, State, image_layout, process, with_process}
use Rattle.kr_core.specs.kr_model.Walks as results
use Rattle.kr_core.specs.kr_model.Walks.{seen, targets_of}
use Rattle.kr_core.specs.kr_model.declared.outcome.Outcome.{Outcome}
use Rattle.kr_core.specs.kr_model.declared.outcome.Outcome.TheVariants.{Answer, Ended, NoMemory, Wait}
use Rattle.kr_core.specs.law_allowed.Told.{mounts_walked}
use Rattle.kr_core.specs.kr_seen.Carrying.{after_row, memory_of, no_memory, with_memory, with_memory_of}
use Rattle.kr_core.specs.kr_steps.Answering.{going, with_answer}
use Rattle.kr_core.specs.kr_steps.Settling.{settled}
use Rattle.kr_core.specs.kr_stops.Stopped.{computed, nothing_handed}
use Rattle.kr_core.specs.kr_turns.PlainCall.{after_decoding, executed, operated, plain_call, plain_call_of, refusal_told, replaced, requested, row_on}
use Rattle.kr_core.specs.kr_turns.declared.plain.CallEnd.TheVariants as end
use Rattle.kr_core.proofs.kr_model.LineLemmas.{by_line, line_passes}
use Rattle.kr_core.proofs.kr_model.KeepingLemmas.{both_true}
use Rattle.kr_loose.specs.Marks.{AreUnmarked, HasNoMarks, LoadsUnmarked, PlainCallsMarkNothing, ProgramsLoadUnmarked}
use Rattle.kr_loose.proofs.UnmarkedLemmas.{action-unmarked, unmarked-empty, unmarked-mapped, unmarked-written}
use Rattle.kr_loose.proofs.LivingLemmas.{changes-mark-nothing, computing-unmarked, process-unmarked, with-one}

-- ---- a program's memory

segment-unmarked : (file : List ℕ) (m : Pages) (s : Segment) → HasNoMarks m → HasNoMarks (with_segment file m s)
unfolding with_segment
segment-unmarked file m s clear =
    unmarked-written (mapped m (first_page s) (end_page s - first_page s) (rights_in s.flags)) s.at (file_bytes file s)
    (unmarked-mapped m (first_page s) (end_page s - first_page s) (rights_in s.flags) clear)

segments-unmarked : (file : List ℕ) (segments : List Segment) (m : Pages) → HasNoMarks m → HasNoMarks (with_segments file m segments)
unfolding with_segments
segments-unmarked file [] m clear = clear
segments-unmarked file (s ∷ segments) m clear = segments-unmarked file segments (with_segment file m s) (segment-unmarked file m s clear)

stack-unmarked : (m : Pages) (sp : ℕ) (bytes : List ℕ) → HasNoMarks m → HasNoMarks (with_stack m sp bytes)
unfolding with_stack
stack-unmarked m sp bytes clear =
    unmarked-written (mapped m (stack_top / page_size - stack_pages) stack_pages stack_rights) sp bytes (unmarked-mapped m (stack_top / page_size - stack_pages) stack_pages stack_rights clear)

image-unmarked : (file : List ℕ) (plan : Plan) (args env : List (List ℕ)) (ids : List ℕ) → HasNoMarks (image_pages file plan args env ids)
unfolding image_pages
image-unmarked file plan args env ids =
    stack-unmarked (with_segments file empty_memory.pages (planned plan)) (stack_pointer args env) (stack_bytes (pairs_of plan ids) args env)
    (segments-unmarked file (planned plan) empty_memory.pages unmarked-empty)

pub programs-load-unmarked : ProgramsLoadUnmarked
programs-load-unmarked file plan args env ids = image-unmarked file plan args env ids

-- ---- what an action comes to

-- every reply that it may come to is good
abbrev ComesTo : {A : Type 0} → (A → Type 0) → Action A → Type 0
ComesTo Good (Done reply) = Good reply
ComesTo Good (MayUse at n uses next) = (b : Bool) → ComesTo Good (next b)
ComesTo Good (ReadBytes at n next) = (bytes : List ℕ) → ComesTo Good (next bytes)
ComesTo Good (WriteBytes at bytes next) = ComesTo Good next

comes-carried : {A : Type 0} (Good : A → Type 0) (action : Action A) → ComesTo Good action → (m : Memory) → Good (carried_out action m).reply
comes-carried Good (Done reply) comes m = comes
comes-carried Good (MayUse at n uses next) comes m = comes-carried Good (next (allows_uses m.pages at n uses)) (comes (allows_uses m.pages at n uses)) m
comes-carried Good (ReadBytes at n next) comes m = comes-carried Good (next (bytes_from m.pages at n)) (comes (bytes_from m.pages at n)) (after_read m at n)
comes-carried Good (WriteBytes at bytes next) comes m = comes-carried Good next comes (with_pages m (written m.pages at bytes))

-- whatever an action gives, what follows is good
then-comes : {A B : Type 0} (Good : B → Type 0) (next : A → Trying B) → ((x : A) → ComesTo (λ (r : Result B Errno). IfOk r Good) (next x))
    → (action : Trying A) → ComesTo (λ (r : Result B Errno). IfOk r Good) (and_then action next)
then-comes Good next each (Done (Ok x)) = each x
then-comes Good next each (Done (Err e)) = tt
then-comes Good next each (MayUse at n uses go) = λ b. then-comes Good next each (go b)
then-comes Good next each (ReadBytes at n go) = λ bytes. then-comes Good next each (go bytes)
then-comes Good next each (WriteBytes at bytes go) = then-comes Good next each go

-- ---- execve

abbrev ProgramIsUnmarked : Program → Type 0
ProgramIsUnmarked p = HasNoMarks p.image.memory.pages

module _ (table : List Row) (pid : ℕ) (s : State ℕ Image) (path : List ℕ) (args env : ℕ) where
  loaded-unmarked : (plan : ExecPlan ℕ) → IfOk (loaded s plan) ProgramIsUnmarked
  loaded-unmarked plan = by (exceeds s plan)
    where
      by : (b : Bool) → IfOk (cond b (Err ENOMEM) (Ok (program_of s.tree s.user plan))) ProgramIsUnmarked
      by true = tt
      by false = image-unmarked (bytes_at s.tree plan.place.host) plan.plan plan.args plan.env (ids_of s.user)

  planned-unmarked : (r : Result (ExecPlan ℕ) Errno) → IfOk (results.and_then r (loaded s)) ProgramIsUnmarked
  planned-unmarked (Err e) = tt
  planned-unmarked (Ok plan) = loaded-unmarked plan

  abbrev programs_from : Place ℕ → PlaceTarget → Lists → Trying Program
  programs_from base target lists = Done (results.and_then (planned_from table pid s path args env base target lists) (loaded s))

  from-unmarked : (base : Place ℕ) → ComesTo (λ (r : Result Program Errno). IfOk r ProgramIsUnmarked) (execution_from table pid s path args env base)
  from-unmarked base =
      then-comes ProgramIsUnmarked (λ (target : PlaceTarget). and_then (lists_at args env) (programs_from base target))
      (λ target. then-comes ProgramIsUnmarked (programs_from base target) (λ lists. planned-unmarked (planned_from table pid s path args env base target lists)) (lists_at args env))
      (Done (found_from table pid s path args env base))

  execution-unmarked : ComesTo (λ (r : Result Program Errno). IfOk r ProgramIsUnmarked) (execution table pid s path args env)
  execution-unmarked = by (cwd_of pid s)
    where
      by : (o : Option (Place ℕ)) → ComesTo (λ (r : Result Program Errno). IfOk r ProgramIsUnmarked) (option_map_or (execution_from table pid s path args env) o (Done (Err ENOENT)))
      by None = tt
      by (Some base) = from-unmarked base

program-loads : (r : Result Program Errno) → IfOk r ProgramIsUnmarked → AllByRecursion LoadsUnmarked (changes_of r)
program-loads (Ok p) own = (own, (tt, (tt, tt)))
program-loads (Err e) own = tt

-- ---- rows load no program

abbrev loads_none : Change → Bool
loads_none (ReplaceImage image brk) = false
loads_none _ = true

abbrev is_no_load : Kind → Bool
is_no_load ReplacesImage = false
is_no_load _ = true

no_load : (c : Change) → is_no_load (kind c) ≡ true → loads_none c ≡ true
no_load (ReplaceImage image brk) e = e
no_load _ e = refl

lines_load_none : (r : Request) → line_passes is_no_load r ≡ true
lines_load_none (call.Dup fd) = refl
lines_load_none _ = refl

change-loads : (c : Change) → loads_none c ≡ true → LoadsUnmarked c
change-loads (ReplaceImage image brk) e = absurd cc
change-loads _ e = tt

changes-load : (cs : List Change) → list_all loads_none cs ≡ true → AllByRecursion LoadsUnmarked cs
changes-load [] e = tt
changes-load (c ∷ cs) e = let parts = both_true (loads_none c) (list_all loads_none cs) e in (change-loads c parts.0, changes-load cs parts.1)

-- ---- the caller

pub memory-unmarked : (pid : ℕ) (s : State ℕ Image) → AreUnmarked s → HasNoMarks (memory_of pid s).pages
memory-unmarked pid s clear = by (process pid s) refl
  where
    by : (o : Option (Process ℕ Image)) → process pid s ≡ o → HasNoMarks (option_map_or (λ (p : Process ℕ Image). p.image.memory) o no_memory).pages
    by None is = unmarked-empty
    by (Some p) is = process-unmarked pid s clear p is

with-memory-unmarked : (pid : ℕ) (memory : Memory) (s : State ℕ Image) → HasNoMarks memory.pages → AreUnmarked s → AreUnmarked (with_memory_of pid memory s)
with-memory-unmarked pid memory s own clear = with-one pid (with_image (with_memory memory)) s (λ p was. own) clear

going-unmarked : (pid : ℕ) (regs : Regs → Regs) (waits : Bool) (s : State ℕ Image) → AreUnmarked s → AreUnmarked (with_living (with_process pid (going regs waits)) s)
going-unmarked pid regs waits s clear = with-one pid (going regs waits) s (λ p own. own) clear

settled-unmarked : (pid : ℕ) (outcome : Outcome) (s : State ℕ Image) → AreUnmarked s → AreUnmarked (settled pid outcome s)
settled-unmarked pid (Answer value) s clear = going-unmarked pid (with_answer value) false s clear
settled-unmarked pid Wait s clear = going-unmarked pid (λ regs. regs) true s clear
settled-unmarked pid Ended s clear = clear
settled-unmarked pid NoMemory s clear = clear

refusal-unmarked : (pid : ℕ) (e : Errno) (s : State ℕ Image) → AreUnmarked s → AreUnmarked (refusal_told pid e s).state
refusal-unmarked pid e s clear = going-unmarked pid (with_answer (neg_ℤ (pos (errno_number e)))) false s clear

-- ---- a whole call

module _ (table : List Row) (pid : ℕ) where
  row-unmarked : (r : Request) (s : State ℕ Image) → AreUnmarked s → AreUnmarked (operated table pid r s).state
  row-unmarked r s clear =
      let action = operation pid r (seen table pid s r) (known image_layout pid s) in
      let done : CarriedOut Reply = row_on table pid r s in
      let mounts : Mounts ℕ = mounts_walked (targets_of table pid s r) in
      let memory : HasNoMarks done.memory.pages = action-unmarked action (memory_of pid s) (memory-unmarked pid s clear) in
      let loads : AllByRecursion LoadsUnmarked done.reply.changes = changes-load done.reply.changes (by_line is_no_load loads_none no_load pid r (seen table pid s r) (known image_layout pid s) (memory_of pid s) (lines_load_none r)) in
      settled-unmarked pid done.reply.outcome (after_row mounts pid done s)
      (changes-mark-nothing ℕ mounts pid done.reply.changes (with_memory_of pid done.memory s) loads (with-memory-unmarked pid done.memory s memory clear))

  replaced-unmarked : (r : Result Program Errno) (s : State ℕ Image) → AreUnmarked s → AreUnmarked (replaced pid r s).state
  replaced-unmarked (Ok program) s clear = going-unmarked pid (λ regs. regs) false s clear
  replaced-unmarked (Err e) s clear = refusal-unmarked pid e s clear

  executed-unmarked : (path : List ℕ) (args env : ℕ) (s : State ℕ Image) → AreUnmarked s → AreUnmarked (executed table pid path args env s).state
  executed-unmarked path args env s clear =
      let action : Trying Program = execution table pid s path args env in
      let done : CarriedOut (Result Program Errno) = carried_out action (memory_of pid s) in
      let mounts : Mounts ℕ = record { found = mount_of done.reply; directory = None } in
      let memory : HasNoMarks done.memory.pages = action-unmarked action (memory_of pid s) (memory-unmarked pid s clear) in
      let program : IfOk done.reply ProgramIsUnmarked = comes-carried (λ (r : Result Program Errno). IfOk r ProgramIsUnmarked) action (execution-unmarked table pid s path args env) (memory_of pid s) in
      replaced-unmarked done.reply (after_execution mounts pid done s)
      (changes-mark-nothing ℕ mounts pid (changes_of done.reply) (with_memory_of pid done.memory s) (program-loads done.reply program) (with-memory-unmarked pid done.memory s memory clear))

  requested-unmarked : (r : Request) (s : State ℕ Image) → AreUnmarked s → AreUnmarked (requested table pid r s).state
  requested-unmarked (call.Execve path args env) s clear = executed-unmarked path args env s clear
  requested-unmarked r s clear = row-unmarked r s clear

  decoded-unmarked : (result : Result Request Errno) (s : State ℕ Image) → AreUnmarked s → AreUnmarked (after_decoding table pid result s).state
  decoded-unmarked (Ok r) s clear = requested-unmarked r s clear
  decoded-unmarked (Err e) s clear = refusal-unmarked pid e s clear

  pub call-unmarked : (s : State ℕ Image) → AreUnmarked s → AreUnmarked (plain_call table pid s).state
  call-unmarked s clear = by (process pid s) refl
    where
      by : (o : Option (Process ℕ Image)) → process pid s ≡ o → AreUnmarked (option_map_or (plain_call_of table pid s) o (record { state = s; end = end.Waits; child = None; handed = nothing_handed })).state
      by None is = clear
      by (Some p) is =
          let done = carried_out (decoding p.image.regs) p.image.memory in
          let still : HasNoMarks done.memory.pages = action-unmarked (decoding p.image.regs) p.image.memory (process-unmarked pid s clear p is) in
          decoded-unmarked done.reply (computed pid p.image.regs done.memory s) (computing-unmarked pid p.image.regs done.memory s still clear)

pub plain-calls-mark-nothing : PlainCallsMarkNothing
plain-calls-mark-nothing table pid s clear = call-unmarked table pid s clear
