-- What holds of the processes of a kernel that stand between the stops of their calls.
use Rattle.std.specs.Prelude.{◌≡◌, ℕ, List, Some, IsSome}
use Rattle.kr_turns.specs.kr_model.State.{Image, State, process}
use Rattle.kr_turns.specs.kr_stops.Remembering.{FreesCaller}
use Rattle.kr_turns.specs.kr_stops.Stopped.{nothing_handed}
use Rattle.kr_core.specs.Between.{between_of}
use Rattle.kr_core.specs.declared.paused.Between.{Between}
use Rattle.kr_core.specs.declared.paused.Between.TheVariants.{AtCall, Entered, Done}
use Rattle.kr_core.specs.declared.paused.Paused.{Paused}

module _ {S : Type 0} (is_free : S → ℕ → Type 0) (x : S) (s : State ℕ Image) where
  -- what a watcher keeps is free for the caller of a call that was begun, if it can alter the shape of the tree
  abbrev pub IsFreedFor : ℕ → Between → Type 0
  IsFreedFor pid AtCall = Unit {0}
  IsFreedFor pid (Entered begun) = FreesCaller is_free (record { state = s; pid = pid; handed = nothing_handed }) x
  IsFreedFor pid (Done handed) = Unit {0}

  pub record IsStanding (pid : ℕ) (between : Between) : Type 0 where
    pub lives : IsSome (process pid s)
    pub freed : IsFreedFor pid between

  pub record AreStanding (paused : List Paused) : Type 0 where
    pub each : (pid : ℕ) (between : Between) → between_of pid paused ≡ Some between → IsStanding pid between
