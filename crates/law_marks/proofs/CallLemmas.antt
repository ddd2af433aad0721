-- A call of a state without marks, from its decoding on.
use Rattle.std.proofs.Common.{◌≡◌, ℕ, false, cond, List, [], Option, Some, None, Result, Ok, Err, sym, ap, ◌∙◌}
use Rattle.std.specs.Prelude.{neg_ℤ, pos}
use Rattle.std.specs.Option.{option_map, option_map_or}
use Rattle.kr_turns.specs.kr_seen.pr_base.declared.errno.Errno.{Errno}
use Rattle.kr_turns.specs.kr_seen.pr_base.declared.errno.Errno.TheVariants.{ENOENT, ENOMEM}
use Rattle.kr_turns.specs.kr_seen.pr_base.Errno.{errno_number}
use Rattle.kr_turns.specs.elf_load.Image.{image_exceeds}
use Rattle.kr_turns.specs.kr_model.kr_calls.Decoding.{Decoded, decoding}
use Rattle.kr_turns.specs.kr_model.kr_calls.declared.request.Request.{Request}
use Rattle.kr_turns.specs.kr_model.kr_calls.declared.request.Request.TheVariants as call
use Rattle.kr_turns.specs.kr_exec.Exec.{exec_plan}
use Rattle.kr_turns.specs.kr_exec.Finding.{program_at}
use Rattle.kr_turns.specs.kr_exec.Interpreters.{bytes_at}
use Rattle.kr_turns.specs.kr_exec.Lists.{Trying, and_then, lists_at}
use Rattle.kr_turns.specs.kr_execve.Execution.{Program, after_execution, changes_of, execution, ids_of, mount_of, program_of}
use Rattle.kr_turns.specs.kr_model.Applied.{Mounts, all_applied, images}
use Rattle.kr_turns.specs.kr_model.Change.{Change}
use Rattle.kr_turns.specs.kr_model.Known.{Known, known}
use Rattle.kr_turns.specs.kr_model.Operation.{operation}
use Rattle.kr_turns.specs.kr_model.Reply.{Reply}
use Rattle.kr_turns.specs.kr_model.State.{Image, Process, State, image_layout, process}
use Rattle.kr_turns.specs.kr_model.Walks.{Targets, seen, targets_of}
use Rattle.kr_turns.specs.kr_model.Walks as results
use Rattle.kr_turns.specs.kr_seen.Carrying.{after_row, memory_of, with_memory_of}
use Rattle.kr_turns.specs.kr_steps.Answering.{answered, resumed, with_answer}
use Rattle.kr_turns.specs.kr_steps.Settling.{settled}
use Rattle.kr_turns.specs.kr_stops.Stopped.{computed, nothing_handed}
use Rattle.kr_turns.specs.kr_view.Answers.{told}
use Rattle.kr_turns.specs.kr_view.Component.{Surroundings}
use Rattle.kr_turns.specs.kr_view.View.{Row}
use Rattle.kr_turns.specs.kr_model.kr_tree.declared.place.Place.{Place}
use Rattle.kr_turns.specs.law_allowed.Told.{mounts_walked}
use Rattle.kr_turns.specs.rv_mem.Actions.{CarriedOut, Done, carried_out}
use Rattle.kr_turns.specs.rv_mem.Memory.{Memory}
use Rattle.kr_turns.specs.PlainCall.{Came, after_decoding, child_of, end_of, executed, leads_to_root, operated, plain_call, plain_call_of, replaced, requested, row_on}
use Rattle.kr_turns.specs.Target.{target_of}
use Rattle.kr_turns.specs.declared.plain.CallEnd.TheVariants as end
use Rattle.law_marks.specs.Unmarked.{unmarked, unmarked_done, unmarked_image, unmarked_in}
use Rattle.law_marks.proofs.ChangeLemmas.{changes_alike, state_twice}
use Rattle.law_marks.proofs.MemoryLemmas.{done-unmarked}
use Rattle.law_marks.proofs.ProcessLemmas.{cwd-each, process-each}
use Rattle.law_marks.proofs.ToldLemmas.{around-same, known-same, pages-same, seen-same, targets-same}
use Rattle.kr_turns.specs.kr_model.Applied.{with_image}
use Rattle.law_marks.specs.Calls.{PlainCallsSeeNoMarks}
use Rattle.law_marks.specs.Unjudged.{unmarked_came}
use Rattle.law_marks.proofs.StateLemmas.{computed-unmarked, going-unmarked, memory-unmarked, noted-unmarked, settled-unmarked}

abbrev States : Type 0
States = State ℕ Image

module _ (table : List Row) (pid : ℕ) where
  -- ---- what is left behind changes, by what becomes of the caller then

  left-unmarked : (f : States → States) → ((s : States) → f (unmarked_in s) ≡ unmarked_in (f s)) → (mounts : Mounts ℕ) (cs : List Change) (memory : Memory) (s : States)
      → unmarked_in (f (all_applied images mounts pid cs (with_memory_of pid (unmarked memory) (unmarked_in s)))) ≡ unmarked_in (f (all_applied images mounts pid cs (with_memory_of pid memory s)))
  left-unmarked f apart mounts cs memory s =
      let noted : States = with_memory_of pid memory s in
      ap (λ (t : States). unmarked_in (f (all_applied images mounts pid cs t))) (noted-unmarked pid memory s)
      ∙ sym (apart (all_applied images mounts pid cs (unmarked_in noted)))
      ∙ ap f (changes_alike mounts pid cs noted)
      ∙ apart (all_applied images mounts pid cs noted)

  -- ---- rows

  row-unmarked : (r : Request) (s : States) → row_on table pid r (unmarked_in s) ≡ unmarked_done (row_on table pid r s)
  row-unmarked r s =
      (λ i. carried_out (operation pid r (seen-same table s pid r i) (known-same pid s i)) (memory-unmarked pid s i))
      ∙ done-unmarked (operation pid r (seen table pid s r) (known image_layout pid s)) (memory_of pid s)

  -- a call by where its paths lead, what is known, and what its row came to
  abbrev operated_by : Request → Result Targets Errno → Known → CarriedOut Reply → States → Came
  operated_by r targets k done s = record {
    state = settled pid done.reply.outcome (after_row (mounts_walked targets) pid done s);
    end = end_of r done.reply.outcome;
    child = child_of s.next_pid r done.reply.outcome;
    handed = record { at_root = leads_to_root table targets; target = target_of r k targets };
  }

  operated-unmarked : (r : Request) (s : States) → unmarked_came (operated table pid r (unmarked_in s)) ≡ unmarked_came (operated table pid r s)
  operated-unmarked r s =
      let done : CarriedOut Reply = row_on table pid r s in
      let came : Came = operated table pid r s in
      (λ i. unmarked_came (operated_by r (targets-same table s pid r i) (known-same pid s i) (row-unmarked r s i) (unmarked_in s)))
      ∙ ap (λ (state : States). record { state = state; end = came.end; child = came.child; handed = came.handed })
      (left-unmarked (settled pid done.reply.outcome) (settled-unmarked pid done.reply.outcome) (mounts_walked (targets_of table pid s r)) done.reply.changes done.memory s)

  -- ---- new programs

  abbrev execution_by : Surroundings → ℕ → Option (Place ℕ) → States → List ℕ → ℕ → ℕ → Trying Program
  execution_by around pages cwd s path args env =
      option_map_or
      (
      λ base.
      and_then (Done (program_at around base path)) (λ target.
      and_then (lists_at args env) (λ lists.
      Done (results.and_then (exec_plan around base (told target) path lists.args lists.env) (λ plan.
      cond (image_exceeds pages (bytes_at s.tree plan.place.host) plan.plan plan.args plan.env (ids_of s.user)) (Err ENOMEM) (Ok (program_of s.tree s.user plan))))))
      )
      cwd (Done (Err ENOENT))

  execution-same : (s : States) (path : List ℕ) (args env : ℕ) → execution table pid (unmarked_in s) path args env ≡ execution table pid s path args env
  execution-same s path args env = λ i. execution_by (around-same table s pid i) (pages-same pid s i) (cwd-each unmarked_image pid s i) s path args env

  abbrev executed_by : CarriedOut (Result Program Errno) → States → Came
  executed_by done s = replaced pid done.reply (after_execution (record { found = mount_of done.reply; directory = None }) pid done s)

  replaced-unmarked : (result : Result Program Errno) (memory : Memory) (s : States)
      → unmarked_came (executed_by (record { reply = result; memory = unmarked memory }) (unmarked_in s)) ≡ unmarked_came (executed_by (record { reply = result; memory = memory }) s)
  replaced-unmarked (Ok program) memory s =
      ap (λ (state : States). record { state = state; end = end.Replaced; child = None; handed = nothing_handed })
      (left-unmarked (resumed pid) (going-unmarked pid (λ regs. regs) false) (record { found = mount_of (Ok program); directory = None }) (changes_of (Ok program)) memory s)
  replaced-unmarked (Err e) memory s =
      ap (λ (state : States). record { state = state; end = end.Answered; child = None; handed = nothing_handed })
      (left-unmarked (answered pid (neg_ℤ (pos (errno_number e)))) (going-unmarked pid (with_answer (neg_ℤ (pos (errno_number e)))) false) (record { found = None; directory = None }) [] memory s)

  executed-unmarked : (path : List ℕ) (args env : ℕ) (s : States) → unmarked_came (executed table pid path args env (unmarked_in s)) ≡ unmarked_came (executed table pid path args env s)
  executed-unmarked path args env s =
      let action : Trying Program = execution table pid s path args env in
      let done : CarriedOut (Result Program Errno) = carried_out action (memory_of pid s) in
      ap (λ (d : CarriedOut (Result Program Errno)). unmarked_came (executed_by d (unmarked_in s)))
      ((λ i. carried_out (execution-same s path args env i) (memory-unmarked pid s i)) ∙ done-unmarked action (memory_of pid s))
      ∙ replaced-unmarked done.reply done.memory s

  -- ---- any call

  requested-unmarked : (r : Request) (s : States) → unmarked_came (requested table pid r (unmarked_in s)) ≡ unmarked_came (requested table pid r s)
  requested-unmarked (call.Execve path args env) s = executed-unmarked path args env s
  requested-unmarked r s = operated-unmarked r s

  decoded-unmarked : (reply : Decoded) (s : States) → unmarked_came (after_decoding table pid reply (unmarked_in s)) ≡ unmarked_came (after_decoding table pid reply s)
  decoded-unmarked (Ok r) s = requested-unmarked r s
  decoded-unmarked (Err e) s =
      ap (λ (state : States). record { state = state; end = end.Answered; child = None; handed = nothing_handed })
      (sym (going-unmarked pid (with_answer (neg_ℤ (pos (errno_number e)))) false (unmarked_in s))
      ∙ ap (answered pid (neg_ℤ (pos (errno_number e)))) (state_twice s)
      ∙ going-unmarked pid (with_answer (neg_ℤ (pos (errno_number e)))) false s)

  called-unmarked : (s : States) (p : Process ℕ Image) → unmarked_came (plain_call_of table pid (unmarked_in s) (with_image unmarked_image p)) ≡ unmarked_came (plain_call_of table pid s p)
  called-unmarked s p =
      let done : CarriedOut Decoded = carried_out (decoding p.image.regs) p.image.memory in
      ap (λ (d : CarriedOut Decoded). unmarked_came (after_decoding table pid d.reply (computed pid p.image.regs d.memory (unmarked_in s)))) (done-unmarked (decoding p.image.regs) p.image.memory)
      ∙ ap (λ (t : States). unmarked_came (after_decoding table pid done.reply t)) (computed-unmarked pid p.image.regs done.memory s)
      ∙ decoded-unmarked done.reply (computed pid p.image.regs done.memory s)

  -- one that lives no more calls nothing
  abbrev not_called : States → Came
  not_called s = record { state = s; end = end.Waits; child = None; handed = nothing_handed }

  pub plain-unmarked : (s : States) → unmarked_came (plain_call table pid (unmarked_in s)) ≡ unmarked_came (plain_call table pid s)
  plain-unmarked s =
      ap (λ o. unmarked_came (option_map_or (plain_call_of table pid (unmarked_in s)) o (not_called (unmarked_in s)))) (process-each unmarked_image pid s) ∙ by (process pid s)
    where
      by : (o : Option (Process ℕ Image)) → unmarked_came (option_map_or (plain_call_of table pid (unmarked_in s)) (option_map (with_image unmarked_image) o) (not_called (unmarked_in s)))
          ≡ unmarked_came (option_map_or (plain_call_of table pid s) o (not_called s))
      by None = ap not_called (state_twice s)
      by (Some p) = called-unmarked s p

pub plain_calls_see_no_marks : PlainCallsSeeNoMarks
plain_calls_see_no_marks = record {
  row = row-unmarked;
  execution = execution-same;
  call = plain-unmarked;
}
