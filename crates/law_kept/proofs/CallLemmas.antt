-- Calls leave a state that has bytes, from their decoding on.
use Rattle.std.proofs.Common.{◌≡◌, ℕ, Bool, true, false, List, Option, Some, None, length, length-set, refl, subst, sym, ◌∙◌, ℤ}
use Rattle.std.specs.Prelude.{Err, IfOk, Ok, Result, neg_ℤ, pos}
use Rattle.std.specs.Int.{cast_unsigned, w64}
use Rattle.std.specs.Option.{option_map_or}
use Rattle.kr_first.specs.pr_base.Errno.{errno_number}
use Rattle.kr_first.specs.pr_base.declared.errno.Errno.{Errno}
use Rattle.kr_first.specs.pr_base.declared.path.WalkMode.TheVariants.{Look}
use Rattle.kr_first.specs.rv_mem.Actions.{carried_out}
use Rattle.kr_first.specs.rv_mem.Memory.{Memory}
use Rattle.kr_first.specs.rv_mem.Pages.{HoldsBytes}
use Rattle.kr_first.specs.rv_mem.declared.regs.Regs.{Regs}
use Rattle.kr_first.specs.kr_calls.Decoding.{decoding}
use Rattle.kr_first.specs.kr_calls.PathTable.{working_directory}
use Rattle.kr_first.specs.kr_calls.declared.request.Request.{Request}
use Rattle.kr_first.specs.kr_calls.declared.request.Request.TheVariants as call
use Rattle.kr_first.specs.kr_view.View.{Row}
use Rattle.kr_first.specs.kr_model.Applied.{Mounts, with_image, with_living}
use Rattle.kr_first.specs.kr_model.Known.{known}
use Rattle.kr_first.specs.kr_model.Operation.{operation}
use Rattle.kr_first.specs.kr_model.State.{Image, Process, State, image_layout, process, with_process}
use Rattle.kr_first.specs.kr_model.Walks.{seen, targets_of}
use Rattle.kr_first.specs.kr_model.declared.outcome.Outcome.{Outcome}
use Rattle.kr_first.specs.kr_model.declared.outcome.Outcome.TheVariants.{Answer, Ended, NoMemory, Wait}
use Rattle.kr_first.specs.law_allowed.Calls.{HasTextPaths, IsGivable}
use Rattle.kr_first.specs.law_allowed.Told.{mounts_walked}
use Rattle.kr_first.proofs.law_allowed.DecodedLemmas.{decoded-are-givable, decoding-leaves-pages}
use Rattle.kr_turns.specs.kr_seen.Carrying.{after_row, memory_of, no_memory, with_memory, with_memory_of}
use Rattle.kr_first.specs.kr_execve.Execution.{Program, after_execution, changes_of, execution, mount_of}
use Rattle.kr_turns.specs.kr_steps.Answering.{going, with_answer}
use Rattle.kr_turns.specs.kr_steps.Computing.{computed}
use Rattle.kr_turns.specs.kr_steps.Settling.{settled}
use Rattle.kr_turns.specs.kr_stops.Stopped.{nothing_handed}
use Rattle.kr_turns.specs.PlainCall.{after_decoding, operated, plain_call, plain_call_of, refusal_told, replaced, requested, row_on}
use Rattle.kr_turns.specs.declared.plain.CallEnd.TheVariants as end
use Rattle.law_kept.specs.Bringing.{BringBytes}
use Rattle.law_kept.specs.Bytes.{GivesBytes, HasByteText, HasBytes, TableHasBytes}
use Rattle.law_kept.specs.Calls.{CallsKeepBytes, ExecutionsKeepBytes, LeavesBytes, PlainCallsKeepBytes}
use Rattle.law_kept.proofs.ActionLemmas.{puts}
use Rattle.law_kept.proofs.ChangeLemmas.{changes-keep-bytes, computing-keeps-bytes, with-one}
use Rattle.law_kept.proofs.ExecutionLemmas.{ProgramHasBytes, execution-gives}
use Rattle.law_kept.proofs.LivingLemmas.{process-bytes}
use Rattle.law_kept.proofs.OperationLemmas.{operation-puts}
use Rattle.law_kept.proofs.PageLemmas.{holds-empty}
use Rattle.law_kept.proofs.SeenLemmas.{knows-bytes, seen-bytes}

-- ---- the caller

memory-holds : (pid : ℕ) (s : State ℕ Image) → HasBytes s → HoldsBytes (memory_of pid s).pages
memory-holds pid s has = by (process pid s) refl
  where
    by : (o : Option (Process ℕ Image)) → process pid s ≡ o → HoldsBytes (option_map_or (λ (p : Process ℕ Image). p.image.memory) o no_memory).pages
    by None is = holds-empty
    by (Some p) is = (process-bytes pid s has p is).memory

with-memory-bytes : (pid : ℕ) (memory : Memory) (s : State ℕ Image) → HoldsBytes memory.pages → HasBytes s → HasBytes (with_memory_of pid memory s)
with-memory-bytes pid memory s holds has = with-one pid (with_image (with_memory memory)) s (λ p own. record { memory = holds; registers = own.registers; exe_name = own.exe_name }) has

going-bytes : (pid : ℕ) (regs : Regs → Regs) (waits : Bool) (s : State ℕ Image) → ((own : Regs) → length (regs own).x ≡ length own.x) → HasBytes s → HasBytes (with_living (with_process pid (going regs waits)) s)
going-bytes pid regs waits s same has = with-one pid (going regs waits) s (λ p own. record { memory = own.memory; registers = same p.image.regs ∙ own.registers; exe_name = own.exe_name }) has

answer-registers : (value : ℤ) (own : Regs) → length (with_answer value own).x ≡ length own.x
answer-registers value own = length-set own.x 10 (cast_unsigned w64 value)

settled-bytes : (pid : ℕ) (outcome : Outcome) (s : State ℕ Image) → HasBytes s → HasBytes (settled pid outcome s)
settled-bytes pid (Answer value) s has = going-bytes pid (with_answer value) false s (answer-registers value) has
settled-bytes pid Wait s has = going-bytes pid (λ regs. regs) true s (λ own. refl) has
settled-bytes pid Ended s has = has
settled-bytes pid NoMemory s has = has

refusal-bytes : (pid : ℕ) (e : Errno) (s : State ℕ Image) → HasBytes s → HasBytes (refusal_told pid e s).state
refusal-bytes pid e s has = going-bytes pid (with_answer (neg_ℤ (pos (errno_number e)))) false s (answer-registers (neg_ℤ (pos (errno_number e)))) has

-- ---- any call but execve

module _ (table : List Row) (pid : ℕ) where
  row-leaves : (r : Request) (s : State ℕ Image) → TableHasBytes table → GivesBytes r → HasBytes s → LeavesBytes (mounts_walked (targets_of table pid s r)) pid s (row_on table pid r s)
  row-leaves r s named gives has =
      let done = row_on table pid r s in
      let mounts : Mounts ℕ = mounts_walked (targets_of table pid s r) in
      let own = puts (operation pid r (seen table pid s r) (known image_layout pid s)) (operation-puts pid r (seen table pid s r) (known image_layout pid s) (knows-bytes pid s has) (seen-bytes table named pid s has r gives) gives.text) (memory_of pid s) (memory-holds pid s has) in
      record {
        memory = own.1;
        changes = own.0;
        state = changes-keep-bytes ℕ mounts pid done.reply.changes (with_memory_of pid done.memory s) own.0 (with-memory-bytes pid done.memory s own.1 has);
      }

  call-leaves : (r : Request) (s : State ℕ Image) → TableHasBytes table → GivesBytes r → HasBytes s → HasBytes (operated table pid r s).state
  call-leaves r s named gives has =
      let done = row_on table pid r s in
      settled-bytes pid done.reply.outcome (after_row (mounts_walked (targets_of table pid s r)) pid done s) (row-leaves r s named gives has).state

pub calls-keep-bytes : CallsKeepBytes
calls-keep-bytes = record { row = λ table pid r s kind named gives has. row-leaves table pid r s named gives has; call = λ table pid r s kind named gives has. call-leaves table pid r s named gives has }

-- ---- execve

program-brings : (r : Result Program Errno) → IfOk r ProgramHasBytes → BringBytes (changes_of r)
program-brings (Ok p) own = ((own.image, own.registers), (own.name, (tt, tt)))
program-brings (Err e) own = tt

replaced-bytes : (pid : ℕ) (r : Result Program Errno) (s : State ℕ Image) → HasBytes s → HasBytes (replaced pid r s).state
replaced-bytes pid (Ok program) s has = going-bytes pid (λ regs. regs) false s (λ own. refl) has
replaced-bytes pid (Err e) s has = refusal-bytes pid e s has

pub executions-keep-bytes : ExecutionsKeepBytes
executions-keep-bytes table pid path args env s named are has =
    let done = carried_out (execution table pid s path args env) (memory_of pid s) in
    let own = puts (execution table pid s path args env) (execution-gives table named pid s has path are args env) (memory_of pid s) (memory-holds pid s has) in
    replaced-bytes pid done.reply (after_execution (record { found = mount_of done.reply; directory = None }) pid done s)
    (changes-keep-bytes ℕ (record { found = mount_of done.reply; directory = None }) pid (changes_of done.reply) (with_memory_of pid done.memory s) (program-brings done.reply own.0) (with-memory-bytes pid done.memory s own.1 has))

-- ---- from the decoding on

pub given-bytes : (r : Request) → IsGivable r → HasTextPaths r → GivesBytes r
given-bytes r givable paths = record { paths = λ k u is. (paths k u is).1; text = by r givable }
  where
    by : (r : Request) → IsGivable r → HasByteText r
    by (call.Symlinkat text dirfd path) givable = givable.0
    by _ givable = tt

module _ (table : List Row) (pid : ℕ) (named : TableHasBytes table) where
  requested-bytes : (r : Request) (s : State ℕ Image) → GivesBytes r → HasBytes s → HasBytes (requested table pid r s).state
  requested-bytes (call.Execve path args env) s gives has =
      executions-keep-bytes table pid path args env s named (gives.paths 0 (record { dirfd = working_directory; text = path; mode = Look; register = 10 }) refl) has
  requested-bytes r s gives has = call-leaves table pid r s named gives has

  decoded-bytes : (result : Result Request Errno) (s : State ℕ Image) → ((r : Request) → result ≡ Ok r → GivesBytes r) → HasBytes s → HasBytes (after_decoding table pid result s).state
  decoded-bytes (Ok r) s gives has = requested-bytes r s (gives r refl) has
  decoded-bytes (Err e) s gives has = refusal-bytes pid e s has

  pub call-bytes : (s : State ℕ Image) → HasBytes s → HasBytes (plain_call table pid s).state
  call-bytes s has = by (process pid s) refl
    where
      by : (o : Option (Process ℕ Image)) → process pid s ≡ o → HasBytes (option_map_or (plain_call_of table pid s) o (record { state = s; end = end.Waits; child = None; handed = nothing_handed })).state
      by None is = has
      by (Some p) is =
          let done = carried_out (decoding p.image.regs) p.image.memory in
          let holds : HoldsBytes p.image.memory.pages = (process-bytes pid s has p is).memory in
          let still : HoldsBytes done.memory.pages = subst HoldsBytes (sym (decoding-leaves-pages p.image.regs p.image.memory holds)) holds in
          decoded-bytes done.reply (computed pid p.image.regs done.memory s)
          (λ r given. let both = decoded-are-givable p.image.regs p.image.memory r holds given in given-bytes r both.0 both.1)
          (computing-keeps-bytes ℕ pid p.image.regs done.memory s still (process-bytes pid s has p is).registers has)

pub plain-calls-keep-bytes : PlainCallsKeepBytes
plain-calls-keep-bytes table pid s named has = call-bytes table pid named s has
