-- How a call is judged by what was known of it before.
use Rattle.std.proofs.Common.{◌≡◌, ◌≢◌, ℕ, Bool, ◌||◌, List, Some, None, sym, ap, ◌∙◌}
use Rattle.std.specs.Prelude.{IsSome}
use Rattle.kr_steps.specs.rv_mem.Actions.{CarriedOut, carried_out}
use Rattle.kr_steps.specs.rv_mem.Memory.{Memory}
use Rattle.kr_execve.specs.kr_calls.declared.request.Request.{Request}
use Rattle.kr_execve.specs.kr_view.declared.target.Reach.{Reach}
use Rattle.kr_execve.specs.kr_view.View.{Row}
use Rattle.kr_steps.specs.kr_model.Known.{Known, known}
use Rattle.kr_steps.specs.kr_model.Operation.{operation}
use Rattle.kr_steps.specs.kr_model.Reply.{Reply}
use Rattle.kr_steps.specs.kr_model.State as model
use Rattle.kr_steps.specs.kr_model.State.{Image, image_layout}
use Rattle.kr_steps.specs.kr_model.Walks.{seen, targets_of}
use Rattle.kr_steps.specs.kr_model.declared.outcome.Outcome.{Outcome}
use Rattle.kr_steps.specs.kr_model.declared.outcome.Outcome.TheVariants.{Answer, Wait, Ended, NoMemory}
use Rattle.kr_steps.specs.law_allowed.Told.{mounts_walked}
use Rattle.kr_hostview.specs.kr_ops.declared.state.State.{State}
use Rattle.kr_hostview.specs.kr_ops.Meaning.{meaning}
use Rattle.kr_calm.specs.kr_seen.Numbered.{state_numbered}
use Rattle.kr_calm.proofs.kr_seen.LookLemmas.{known-numbered}
use Rattle.kr_calm.specs.kr_seen.Carrying.{after_row, carried, memory_of, with_memory_of}
use Rattle.kr_calm.specs.Calm.{Course, broken_by}
use Rattle.kr_calm.specs.Noted.{IsNoted}
use Rattle.kr_calm.specs.Rules.{breaks_2}
use Rattle.kr_calm.proofs.MarkLemmas.{rows_keep_marks}
use Rattle.kr_turns.specs.Breaking.{asked_of, changed_rule, rule_told}
use Rattle.kr_turns.specs.Looking.{judged, read_told}
use Rattle.kr_turns.specs.PlainCall.{row_on}
use Rattle.kr_turns.proofs.BreakLemmas.{told-by-parts}
use Rattle.kr_turns.proofs.NumberLemmas.{memory-numbered}

module _ (marks : ℕ) (table : List Row) (pid : ℕ) (request : Request) (before : model.State ℕ Image) (no_shelf : Bool) (reach : Reach) where
  abbrev done : CarriedOut Reply
  done = row_on table pid request before

  abbrev course : Course
  course = record {
    pid = pid;
    state = with_memory_of pid done.memory before;
    memory = done.memory;
    no_shelf = no_shelf;
    asked = Some (asked_of marks table pid no_shelf request before);
    mounts = mounts_walked (targets_of table pid before request);
    changes = done.reply.changes;
    reach = reach;
  }

  pub judged-told : judged marks table pid request before no_shelf reach
      ≡ rule_told marks (done.memory.read_marked || no_shelf) (breaks_2 table before.tree request (targets_of table pid before request)) (changed_rule table course) reach
  judged-told = told-by-parts marks table course

  -- where marks aren't kept
  pub unjudged : marks ≡ 0 → None ≡ judged marks table pid request before no_shelf reach
  unjudged none = sym (ap (λ m. broken_by m table course) none)

-- what was read of the memory of a caller that goes on is noted there
pub read-is : {T : Type 0} {M : ℕ} (number : T → ℕ) (table : List Row) (pid : ℕ) (request : Request) (before : model.State ℕ Image) (after : State T M) (outcome : Outcome) (read : Bool) → outcome ≢ NoMemory
    → outcome ≡ (row_on table pid request before).reply.outcome → ((row_on table pid request before).reply.outcome ≡ Ended → read ≡ (row_on table pid request before).memory.read_marked)
    → IsSome (model.process pid before)
    → state_numbered number (meaning after) ≡ after_row (mounts_walked (targets_of table pid before request)) pid (row_on table pid request before) before
    → read_told outcome read (memory_of pid (meaning after)).read_marked ≡ (row_on table pid request before).memory.read_marked
read-is number table pid request before after outcome read wanted is ending lives left = by outcome is
  where
    goes-on : (row_on table pid request before).reply.outcome ≢ Ended → (memory_of pid (meaning after)).read_marked ≡ (row_on table pid request before).memory.read_marked
    goes-on on =
        ap (λ (m : Memory). m.read_marked) (sym (memory-numbered number pid (meaning after)))
        ∙ ap (λ (t : model.State ℕ Image). (memory_of pid t).read_marked) left
        ∙ rows_keep_marks (mounts_walked (targets_of table pid before request)) pid request (seen table pid before request) before lives on

    by : (o : Outcome) → o ≡ (row_on table pid request before).reply.outcome → read_told o read (memory_of pid (meaning after)).read_marked ≡ (row_on table pid request before).memory.read_marked
    by (Answer value) e = goes-on (λ ends. let no : ◌≡◌ (Answer value) Ended = e ∙ ends in cc)
    by Wait e = goes-on (λ ends. let no : Wait ≡ Ended = e ∙ ends in cc)
    by Ended e = ending (sym e)
    by NoMemory e = absurd (wanted (is ∙ sym e))

-- a call that ends its caller has read what was noted before
pub noted-read : {T : Type 0} {M : ℕ} (number : T → ℕ) (table : List Row) (pid : ℕ) (request : Request) (old mid : State T M) → IsNoted pid request old mid
    → (row_on table pid request (state_numbered number (meaning old))).reply.outcome ≡ Ended
    → (memory_of pid (meaning mid)).read_marked ≡ (row_on table pid request (state_numbered number (meaning old))).memory.read_marked
noted-read number table pid request old mid noted ends =
    let shown = state_numbered number (meaning old) in
    let facts = seen table pid shown request in
    let same : carried pid (operation pid request facts (known image_layout pid (meaning old))) (meaning old) ≡ row_on table pid request shown =
    sym
    (ap (λ (k : Known). carried_out (operation pid request facts k) (memory_of pid shown)) (known-numbered number image_layout pid (meaning old))
    ∙ ap (λ (m : Memory). carried_out (operation pid request facts (known image_layout pid (meaning old))) m) (memory-numbered number pid (meaning old)))
    in
    noted.ending facts (ap (λ (d : CarriedOut Reply). d.reply.outcome) same ∙ ends) ∙ ap (λ (d : CarriedOut Reply). d.memory.read_marked) same
