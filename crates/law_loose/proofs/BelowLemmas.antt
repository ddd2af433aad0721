-- A watcher with all that is asked of it, and the laws from below on which loose runs rest. The laws are handed over as one, and so are watchers: no
-- clause ranges over predicates, but a lemma may.
use Rattle.std.specs.Prelude.{ℕ, Bool, List}
use Rattle.kr_loose.specs.kr_view.View.{Row}
use Rattle.kr_loose.specs.kr_model.State.{Image, State}
use Rattle.kr_loose.specs.kr_stops.Stopped.{Stopped}
use Rattle.kr_loose.specs.kr_stops.Watching.{Watcher}
use Rattle.kr_loose.specs.kr_turns.Turn.{Machine}
use Rattle.kr_loose.specs.Local.{Locality}
use Rattle.law_beside.specs.Calls.{PlainCallsComeBeside}
use Rattle.law_beside.specs.Changes.{BesideIsAnEquality, EditsStayBeside, EndsComeBeside}
use Rattle.law_beside.specs.Picks.{PicksAreBeside}
use Rattle.law_loose.specs.Images.{IsScene}

-- states that are the same but for what some processes compute on
pub record Besides (S : Type 0) : Type 0 where
  pub equal : BesideIsAnEquality ℕ
  pub calls : PlainCallsComeBeside
  pub ends : EndsComeBeside
  pub edits : EditsStayBeside
  pub picks : PicksAreBeside S

pub record Whole (S Part Kept : Type 0) : Type 1 where
  pub f : Watcher S
  pub asks : S → Stopped → Bool
  pub l : Locality S Part Kept
  pub fits : S → Type 0
  pub Stays : (exec : Bool) → (pid : ℕ) → (s t : State ℕ Image) → Type 0
  pub Good : Machine S → Type 0
  pub Tame : Machine S → Type 0
  pub table : List Row
  pub scene : IsScene f asks l fits Stays Good Tame table
  pub below : Besides S
