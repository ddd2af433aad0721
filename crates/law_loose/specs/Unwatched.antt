-- The simplest watcher: where nobody watches, each loose run that is quiet comes to what its image comes to.
use Rattle.std.specs.Prelude.{◌≡◌, ℕ, Bool, false, List}
use Rattle.kr_loose.specs.kr_view.View.{Row}
use Rattle.kr_loose.specs.kr_model.Lawful.{ArePids}
use Rattle.kr_loose.specs.kr_model.State.{Image, State}
use Rattle.kr_loose.specs.kr_stops.Stopped.{Stopped, image_in}
use Rattle.kr_loose.specs.kr_stops.Watching.{unwatched}
use Rattle.kr_loose.specs.kr_turns.Turn.{Machine}
use Rattle.kr_loose.specs.Marks.{AreUnmarked}
use Rattle.kr_loose.specs.Local.{Locality}
use Rattle.law_loose.specs.Images.{LooseRunsAreTheirImages, StepsLag}

module _ {S : Type 0} where
  -- it looks up nothing, goes by nothing, and keeps nothing
  abbrev pub asks_nothing : S → Stopped → Bool
  asks_nothing x t = false

  abbrev pub goes_by_nothing : Locality S (Unit {0}) (Unit {0})
  goes_by_nothing = record { part = λ pid x. tt; kept = λ pid x. tt }

  abbrev pub AnyFits : S → Type 0
  AnyFits x = Unit {0}

  -- of each turn it has to be known that numbers of processes are their own, and that no byte is marked
  pub record IsSound (m : Machine S) : Type 0 where
    pub pids : ArePids m.state
    pub unmarked : AreUnmarked m.state

  abbrev pub AnyMachine : Machine S → Type 0
  AnyMachine m = Unit {0}

-- a process computes on what it computed on
abbrev pub KeepsImage : (exec : Bool) (pid : ℕ) (s t : State ℕ Image) → Type 0
KeepsImage exec pid s t = image_in pid t ≡ image_in pid s

abbrev pub UnwatchedStepsLag : Type 0 → Type 0
UnwatchedStepsLag S = (table : List Row) → StepsLag {S = S} unwatched asks_nothing goes_by_nothing AnyFits IsSound AnyMachine table

abbrev pub UnwatchedRunsAreTheirImages : Type 0 → Type 0
UnwatchedRunsAreTheirImages S = (table : List Row) → LooseRunsAreTheirImages {S = S} unwatched asks_nothing goes_by_nothing AnyFits IsSound AnyMachine table
