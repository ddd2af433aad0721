-- Calls that can wait have no path, and where they come to wait leave all but that their caller stays at them.
use Rattle.std.proofs.Common.{◌≡◌, ◌≢◌, ℕ, ◌==◌, ◌&&◌, ◌||◌, Bool, true, false, List, [], ◌∷◌, cond, Option, Some, None, Result, Ok, Err, IsSome, refl, sym, ap, subst, ◌∙◌}
use Rattle.std.specs.Option.{option_map, option_map_or}
use Rattle.kr_core.specs.pr_base.declared.errno.Errno.{Errno}
use Rattle.kr_core.specs.rv_mem.Actions.{CarriedOut, carried_out}
use Rattle.kr_core.specs.rv_mem.Memory.{Memory}
use Rattle.kr_core.specs.rv_mem.declared.regs.Regs.{Regs}
use Rattle.kr_core.specs.kr_calm.Shelf.{has_path}
use Rattle.kr_core.specs.kr_execve.Execution.{Program, after_execution, execution, mount_of}
use Rattle.kr_core.specs.kr_view.View.{Row}
use Rattle.kr_core.specs.kr_calls.Arguments.{has_other, int, long, number, word}
use Rattle.kr_core.specs.kr_calls.CallTable.{ByKernel, ToldNothing, line}
use Rattle.kr_core.specs.kr_calls.Decoding.{Decoded, accepts, decoding, decoding_of, unless, wait_flags}
use Rattle.kr_core.specs.kr_calls.declared.request.Request.{Request}
use Rattle.kr_core.specs.kr_calls.declared.request.Request.TheVariants as call
use Rattle.kr_core.specs.kr_model.Applied.{with_image, with_living}
use Rattle.kr_core.specs.kr_model.FileRows.{creates}
use Rattle.kr_core.specs.kr_model.Known.{known}
use Rattle.kr_core.specs.kr_model.Laws.{may_wait}
use Rattle.kr_core.specs.kr_model.Operation.{operation}
use Rattle.kr_core.specs.kr_model.Reply.{Reply}
use Rattle.kr_core.specs.kr_model.State.{Image, Process, State, at_pid, image_layout, process, with_process}
use Rattle.kr_core.specs.kr_model.Walks.{seen, targets_of}
use Rattle.kr_core.specs.kr_model.declared.outcome.Outcome.{Outcome}
use Rattle.kr_core.specs.kr_model.declared.outcome.Outcome.TheVariants.{Answer, Ended, NoMemory, Wait}
use Rattle.kr_core.specs.law_allowed.Told.{mounts_walked}
use Rattle.kr_core.specs.kr_seen.Carrying.{after_row, memory_of, no_memory, with_memory, with_memory_of}
use Rattle.kr_core.specs.kr_steps.Answering.{going, waiting}
use Rattle.kr_core.specs.kr_steps.Settling.{settled}
use Rattle.kr_core.specs.kr_steps.Waits.{IsDecoded}
use Rattle.kr_core.specs.kr_stops.Remembering.{is_shape_call}
use Rattle.kr_core.specs.kr_stops.Stopped.{IsThere, Stopped, computed, image_at, image_in, no_image, nothing_handed}
use Rattle.kr_core.specs.kr_turns.PlainCall.{Came, after_decoding, child_of, end_of, operated, plain_call_of, replaced, requested, row_on}
use Rattle.kr_core.specs.kr_turns.declared.plain.CallEnd.TheVariants as end
use Rattle.kr_core.proofs.law_lawful.ProcessChangeLemmas.{found as found_changed}
use Rattle.kr_core.proofs.kr_calls.DecodingLemmas.{decoded_are_numbered}
use Rattle.kr_core.proofs.kr_model.LineLemmas.{row_keeps, row_waits}
use Rattle.kr_loose.specs.Marks.{AreUnmarked, HasNoMarks}
use Rattle.kr_loose.specs.WaitingCalls.{HasNoPath, LeavesAll, WaitingCallsHaveNoPath, WaitsLeaveAll}
use Rattle.kr_loose.proofs.UnmarkedLemmas.{action-unmarked}
use Rattle.kr_loose.proofs.LivingLemmas.{computing-unmarked, process-unmarked}
use Rattle.kr_loose.proofs.MarkCallLemmas.{memory-unmarked}
use Rattle.kr_loose.proofs.IdleLemmas.{waited, waits-idly}

impossible : {A : Type 0} → false ≡ true → A
impossible e = absurd cc

answered-waits : {A : Type 0} → end.Answered ≡ end.Waits → A
answered-waits e = absurd cc

-- ---- what is asked

module _ (regs : Regs) (memory : Memory) where
  -- whether it can alter the shape of the tree, by its number
  abbrev alters : ℕ → Bool
  alters n = is_shape_call n || (n == 56 && creates (word regs 2))

  abbrev decoded_as : Decoded → CarriedOut Decoded
  decoded_as reply = record { reply = reply; memory = memory }

  module _ (r : Request) where
    abbrev Gives : ℕ → Type 0
    Gives n = (carried_out (decoding_of n regs) memory).reply ≡ Ok r

    -- what the registers of such a number tell
    record IsQuick (n : ℕ) : Type 0 where
      read : carried_out (decoding_of n regs) memory ≡ decoded_as (Ok r)
      shelf : has_path n ≡ false
      shape : alters n ≡ false

    read_quick : Gives 63 → IsQuick 63
    read_quick e = record { read = ap decoded_as e; shelf = refl; shape = refl }

    write_quick : Gives 64 → IsQuick 64
    write_quick e = record { read = ap decoded_as e; shelf = refl; shape = refl }

    readv_quick : Gives 65 → IsQuick 65
    readv_quick e = record { read = ap decoded_as e; shelf = refl; shape = refl }

    writev_quick : Gives 66 → IsQuick 66
    writev_quick e = record { read = ap decoded_as e; shelf = refl; shape = refl }

    wait4_quick : Gives 260 → IsQuick 260
    wait4_quick e = record { read = by (has_other (word regs 2) wait_flags) e; shelf = refl; shape = refl }
      where
        by : (b : Bool) → (carried_out (unless b (accepts (call.Wait4 (int regs 0) (long regs 1) (int regs 2) (long regs 3)))) memory).reply ≡ Ok r
            → carried_out (unless b (accepts (call.Wait4 (int regs 0) (long regs 1) (int regs 2) (long regs 3)))) memory ≡ decoded_as (Ok r)
        by true e = absurd cc
        by false e = ap decoded_as e

  quick_of : (r : Request) → may_wait r ≡ true → Gives r (line r).number → IsQuick r (line r).number
  quick_of (call.Read fd buf n) may e = read_quick (call.Read fd buf n) e
  quick_of (call.Write fd buf n) may e = write_quick (call.Write fd buf n) e
  quick_of (call.Readv fd list count) may e = readv_quick (call.Readv fd list count) e
  quick_of (call.Writev fd list count) may e = writev_quick (call.Writev fd list count) e
  quick_of (call.Wait4 child status options usage) may e = wait4_quick (call.Wait4 child status options usage) e
  quick_of _ may e = impossible may

told_plainly : (r : Request) → may_wait r ≡ true → ((line r).told ≡ ToldNothing) × ((line r).teller ≡ ByKernel)
told_plainly (call.Read fd buf n) may = (refl, refl)
told_plainly (call.Write fd buf n) may = (refl, refl)
told_plainly (call.Readv fd list count) may = (refl, refl)
told_plainly (call.Writev fd list count) may = (refl, refl)
told_plainly (call.Wait4 child status options usage) may = (refl, refl)
told_plainly _ may = impossible may

pub waiting-calls-have-no-path : WaitingCallsHaveNoPath
waiting-calls-have-no-path regs memory r e may =
    let same : (line r).number ≡ number regs = decoded_are_numbered regs memory r e in
    let quick : IsQuick regs memory r (number regs) = subst (IsQuick regs memory r) same (quick_of regs memory r may (subst (Gives regs memory r) (sym same) e)) in
    let told = told_plainly r may in
    record { read = quick.read; told = told.0; teller = told.1; shelf = quick.shelf; shape = quick.shape }

-- ---- what it came to

ends-waiting : (r : Request) (o : Outcome) → o ≢ NoMemory → end_of r o ≡ end.Waits → o ≡ Wait
ends-waiting r (Answer value) some e = absurd cc
ends-waiting r Wait some e = refl
ends-waiting r Ended some e = absurd cc
ends-waiting r NoMemory some e = absurd (some refl)

no-child : (next : ℕ) (r : Request) → child_of next r Wait ≡ None
no-child next (call.Clone flags sp ctid) = refl
no-child next _ = refl

program-begins : (pid : ℕ) (r : Result Program Errno) (s : State ℕ Image) → (replaced pid r s).end ≡ end.Waits → ⊥
program-begins pid (Ok program) s e = absurd cc
program-begins pid (Err errno) s e = absurd cc

module _ (table : List Row) (pid : ℕ) (r : Request) (s : State ℕ Image) (clear : HasNoMarks (memory_of pid s).pages) (e : (operated table pid r s).end ≡ end.Waits) where
  row-outcome : (row_on table pid r s).reply.outcome ≡ Wait
  row-outcome = ends-waiting r (row_on table pid r s).reply.outcome (row_keeps pid r (seen table pid s r) (known image_layout pid s) (memory_of pid s)).no_want e

  row-may : may_wait r ≡ true
  row-may = row_waits pid r (seen table pid s r) (known image_layout pid s) (memory_of pid s) row-outcome

  row-waited : row_on table pid r s ≡ waited (memory_of pid s)
  row-waited = waits-idly pid r (seen table pid s r) (known image_layout pid s) row-may (memory_of pid s) clear row-outcome

  abbrev left_by : CarriedOut Reply → State ℕ Image
  left_by done = settled pid done.reply.outcome (after_row (mounts_walked (targets_of table pid s r)) pid done s)

  row-left : (operated table pid r s).state ≡ waiting pid (with_memory_of pid (memory_of pid s) s)
  row-left = ap left_by row-waited

  row-child : (operated table pid r s).child ≡ None
  row-child = ap (child_of s.next_pid r) row-outcome ∙ no-child s.next_pid r

-- ---- a process with its own memory is the same

abbrev with_own : Image → Process ℕ Image → Process ℕ Image
with_own own = with_image (λ (image : Image). own)

module _ (pid : ℕ) (own : Image) where
  own-one : (p : Process ℕ Image) → at_pid pid (with_image (with_memory own.memory)) (at_pid pid (with_own own) p) ≡ at_pid pid (with_own own) p
  own-one p = by (p.pid == pid) refl
    where
      by : (b : Bool) → p.pid == pid ≡ b → at_pid pid (with_image (with_memory own.memory)) (cond b (with_own own p) p) ≡ cond b (with_own own p) p
      by true is = ap (λ (b : Bool). cond b (with_own own p) (with_own own p)) is
      by false is = ap (λ (b : Bool). cond b (with_image (with_memory own.memory) p) p) is

  own-each : (ps : List (Process ℕ Image)) → with_process pid (with_image (with_memory own.memory)) (with_process pid (with_own own) ps) ≡ with_process pid (with_own own) ps
  own-each [] = refl
  own-each (p ∷ ps) = λ i. own-one p i ∷ own-each ps i

  own-kept : (s : State ℕ Image) → computed pid own.regs own.memory s ≡ s → with_memory_of pid own.memory s ≡ s
  own-kept s there =
      ap (with_memory_of pid own.memory) (sym there)
      ∙ ap (λ (ps : List (Process ℕ Image)). with_living (λ _. ps) s) (own-each s.living)
      ∙ there

-- ---- one that waits has its image

image-stays : (b : Bool) (p : Process ℕ Image) → (cond b (going (λ regs. regs) true p) p).image ≡ p.image
image-stays true p = refl
image-stays false p = refl

image-found : (pid : ℕ) (s : State ℕ Image) (p : Process ℕ Image) → process pid s ≡ Some p → image_in pid s ≡ p.image
image-found pid s p lives = ap (λ (o : Option (Process ℕ Image)). option_map_or (λ (q : Process ℕ Image). q.image) o no_image) lives

image-waiting : (pid : ℕ) (s : State ℕ Image) (p : Process ℕ Image) → process pid s ≡ Some p → image_in pid (waiting pid s) ≡ p.image
image-waiting pid s p lives =
    ap (λ (o : Option (Process ℕ Image)). option_map_or (λ (q : Process ℕ Image). q.image) o no_image)
    (found_changed pid (going (λ regs. regs) true) (λ q. refl) pid s.living ∙ ap (option_map (at_pid pid (going (λ regs. regs) true))) lives)
    ∙ image-stays (p.pid == pid) p

-- ---- a whole call

module _ (table : List Row) (t : Stopped) (there : IsThere t) (clear : AreUnmarked t.state) (p : Process ℕ Image) (lives : process t.pid t.state ≡ Some p) where
  own-there : computed t.pid p.image.regs p.image.memory t.state ≡ t.state
  own-there = ap (λ (i : Image). computed t.pid i.regs i.memory t.state) (sym (image-found t.pid t.state p lives)) ∙ ap (λ (u : Stopped). u.state) there.one

  -- behind the decoding, which may have read this memory
  abbrev decoded_in : Memory → State ℕ Image
  decoded_in memory = computed t.pid p.image.regs memory t.state

  module _ (r : Request) (memory : Memory) (same : carried_out (decoding p.image.regs) p.image.memory ≡ record { reply = Ok r; memory = memory }) (e : (operated table t.pid r (decoded_in memory)).end ≡ end.Waits) where
    still : HasNoMarks (memory_of t.pid (decoded_in memory)).pages
    still =
        memory-unmarked t.pid (decoded_in memory)
        (computing-unmarked t.pid p.image.regs memory t.state
        (subst (λ (d : CarriedOut Decoded). HasNoMarks d.memory.pages) same (action-unmarked (decoding p.image.regs) p.image.memory (process-unmarked t.pid t.state clear p lives)))
        clear)

    can-wait : may_wait r ≡ true
    can-wait = row-may table t.pid r (decoded_in memory) still e

    asks : IsDecoded p.image.regs p.image.memory r
    asks = ap (λ (d : CarriedOut Decoded). d.reply) same

    -- which it hasn't
    decoded-same : decoded_in memory ≡ t.state
    decoded-same =
        let path : HasNoPath p.image.regs p.image.memory r = waiting-calls-have-no-path p.image.regs p.image.memory r asks can-wait in
        let kept : memory ≡ p.image.memory = ap (λ (d : CarriedOut Decoded). d.memory) (sym same ∙ path.read) in
        ap decoded_in kept ∙ own-there

    memory-is : memory_of t.pid t.state ≡ p.image.memory
    memory-is = ap (λ (o : Option (Process ℕ Image)). option_map_or (λ (q : Process ℕ Image). q.image.memory) o no_memory) lives

    state-is : (operated table t.pid r (decoded_in memory)).state ≡ waiting t.pid t.state
    state-is =
        row-left table t.pid r (decoded_in memory) still e
        ∙ ap (λ (u : State ℕ Image). waiting t.pid (with_memory_of t.pid (memory_of t.pid u) u)) decoded-same
        ∙ ap (λ (m : Memory). waiting t.pid (with_memory_of t.pid m t.state)) memory-is
        ∙ ap (waiting t.pid) (own-kept t.pid p.image t.state own-there)

    row-leaves : LeavesAll t (operated table t.pid r (decoded_in memory))
    row-leaves = record {
      request = r;
      decoded = subst (λ (i : Image). IsDecoded i.regs i.memory r) (sym (image-found t.pid t.state p lives)) asks;
      may = can-wait;
      state = state-is;
      image = ap (image_in t.pid) state-is ∙ image-waiting t.pid t.state p lives ∙ sym (image-found t.pid t.state p lives);
      child = row-child table t.pid r (decoded_in memory) still e;
    }

  request-leaves : (r : Request) (memory : Memory) → carried_out (decoding p.image.regs) p.image.memory ≡ record { reply = Ok r; memory = memory }
      → (requested table t.pid r (decoded_in memory)).end ≡ end.Waits → LeavesAll t (requested table t.pid r (decoded_in memory))
  request-leaves (call.Execve path args env) memory same e =
      let done : CarriedOut (Result Program Errno) = carried_out (execution table t.pid (decoded_in memory) path args env) (memory_of t.pid (decoded_in memory)) in
      absurd (program-begins t.pid done.reply (after_execution (record { found = mount_of done.reply; directory = None }) t.pid done (decoded_in memory)) e)
  request-leaves r memory same e = row-leaves r memory same e

  reply-leaves : (reply : Decoded) (memory : Memory) → carried_out (decoding p.image.regs) p.image.memory ≡ record { reply = reply; memory = memory }
      → (after_decoding table t.pid reply (decoded_in memory)).end ≡ end.Waits → LeavesAll t (after_decoding table t.pid reply (decoded_in memory))
  reply-leaves (Ok r) memory same e = request-leaves r memory same e
  reply-leaves (Err errno) memory same e = answered-waits e

  call-leaves : (plain_call_of table t.pid t.state p).end ≡ end.Waits → LeavesAll t (plain_call_of table t.pid t.state p)
  call-leaves e =
      let done : CarriedOut Decoded = carried_out (decoding p.image.regs) p.image.memory in
      reply-leaves done.reply done.memory refl e

-- of one that doesn't live there is no call
abbrev not_called : Stopped → Came
not_called t = record { state = t.state; end = end.Waits; child = None; handed = nothing_handed }

pub waits-leave-all : WaitsLeaveAll
waits-leave-all table t there clear e = by (process t.pid t.state) refl there.lives e
  where
    by : (o : Option (Process ℕ Image)) → process t.pid t.state ≡ o → IsSome o → (option_map_or (plain_call_of table t.pid t.state) o (not_called t)).end ≡ end.Waits
        → LeavesAll t (option_map_or (plain_call_of table t.pid t.state) o (not_called t))
    by None lives some e = impossible some
    by (Some p) lives some e = call-leaves table t there clear p lives e
