-- What the definitions of loose runs have in common with those of turns.
use Rattle.std.specs.Prelude.{◌≡◌, ◌↔◌, ℕ, Bool, List, Some, None, map}
use Rattle.kr_core.specs.kr_turns.kr_view.View.{Row}
use Rattle.kr_core.specs.kr_turns.kr_model.State.{Image, Process}
use Rattle.kr_core.specs.kr_turns.Steps.{picked_process}
use Rattle.kr_core.specs.kr_turns.kr_stops.Stopped.{Stopped}
use Rattle.kr_core.specs.kr_turns.kr_stops.Watching.{IsGraph, Watcher, Watching}
use Rattle.kr_loose.specs.LooseRun.{IsStepOf, Loose, Step, loose_part, step, step_part}
use Rattle.kr_loose.specs.Quiet.{IsQuiet}

-- where the relations of a watcher are the graphs of functions on a part of what it keeps, a step by the relations is the step by the
-- functions on that part; and where no process is ready nothing changes
pub record StepsAreFunctions {S Q : Type 0} (part : S → Q) (w : Watching S) : Type 0 where
  pub steps : (f : Watcher Q) (marks : ℕ) (table : List Row) (pick fuel : ℕ) (p : Process ℕ Image) (old new : Loose S) → IsGraph part w f
      → picked_process old.machine.state pick ≡ Some p → IsStepOf w marks table pick fuel p old new → loose_part part new ≡ step f marks table pick fuel (loose_part part old)
  pub rests : (f : Watcher Q) (marks : ℕ) (table : List Row) (pick fuel : ℕ) (l : Loose Q) → picked_process l.machine.state pick ≡ None → step f marks table pick fuel l ≡ l

-- where what a watcher asks for at first stops shows in a part of what it keeps, quiet does
abbrev pub QuietIsOfParts : Type 0 → Type 0 → Type 0
QuietIsOfParts S Q =
    (part : S → Q) (asks : S → Stopped → Bool) (asked : Q → Stopped → Bool) → ((x : S) (t : Stopped) → asks x t ≡ asked (part x) t)
    → (marks : ℕ) (table : List Row) (met_at_start : Bool) (steps : List (Step S)) → IsQuiet asks marks table met_at_start steps ↔ IsQuiet asked marks table met_at_start (map (step_part part) steps)
