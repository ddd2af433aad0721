-- The contract of a call with paths: what its row is given of them, and what is left of a state where it was carried out.
use Rattle.std.specs.Prelude.{ℕ, List}
use Rattle.kr_ops.specs.kr_view.View.{Row}
use Rattle.kr_ops.specs.kr_view.declared.target.Target.{Target}
use Rattle.kr_ops.specs.kr_model.Known.{Known}
use Rattle.kr_ops.specs.kr_model.Reply.{Replying}
use Rattle.kr_ops.specs.kr_model.Seen.{Looked, Made, Seen, Taken}
use Rattle.kr_ops.specs.kr_model.Walks.{if_found, linked_at, made_at, moved_at, opened_at, taken_at}
use Rattle.kr_ops.specs.kr_model.declared.outcome.Outcome.{Outcome}
use Rattle.kr_ops.specs.declared.state.State.{State}
use Rattle.kr_ops.specs.Meaning.{meaning}
use Rattle.kr_seen.specs.Numbered.{state_numbered}
use Rattle.kr_seen.specs.Carrying.{CarriesOut}
use Rattle.kr_seen.specs.Placed.{placed_in, target_mounts}

-- what is told of targets in a view, by the numbers of its mounts, over a state of the code
module _ {T : Type 0} {M : ℕ} (number : T → ℕ) (table : List Row) (pid : ℕ) (s : State T M) where
  abbrev pub seen_found : Target T → (Looked → Seen) → Seen
  seen_found target next = if_found table pid (state_numbered number (meaning s)) (placed_in number target) next

  abbrev pub seen_taken : Target T → Taken
  seen_taken target = taken_at table pid (state_numbered number (meaning s)) (placed_in number target)

  abbrev pub seen_made : Target T → Made
  seen_made target = made_at table pid (state_numbered number (meaning s)) (placed_in number target)

  abbrev pub seen_opened : ℕ → Target T → Seen
  seen_opened flags target = opened_at table pid (state_numbered number (meaning s)) flags (placed_in number target)

  abbrev pub seen_linked : Target T → Target T → Seen
  seen_linked old new = linked_at table pid (state_numbered number (meaning s)) (placed_in number old) (placed_in number new)

  abbrev pub seen_moved : Target T → Target T → Seen
  seen_moved old new = moved_at table pid (state_numbered number (meaning s)) (placed_in number old) (placed_in number new)

-- the row was carried out, with the mounts of the first path's target
abbrev pub PerformsAt : {T : Type 0} {M : ℕ} → Target T → ℕ → (Known → Replying) → State T M → State T M → Outcome → Type 0
PerformsAt target pid row old new result = CarriesOut (target_mounts target) pid row old new result
