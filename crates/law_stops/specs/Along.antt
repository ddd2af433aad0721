-- Calls along paths, where an identity is told: both kernels answer them, and what is left is what stands without an identity.
use Rattle.std.specs.Prelude.{◌≡◌, ℕ, true, List, None, Some, Ok, Err}
use Rattle.law_edits.specs.kr_view.View.{Row}
use Rattle.law_turns.specs.kr_calls.Decoding.{Decoded}
use Rattle.law_turns.specs.kr_calls.declared.request.Request.{Request}
use Rattle.law_edits.specs.kr_model.State.{Image, Process, State, process}
use Rattle.law_turns.specs.kr_turns.PlainCall.{Came, plain_call}
use Rattle.law_turns.specs.kr_turns.declared.plain.CallEnd.TheVariants as end
use Rattle.law_turns.specs.law_kept.ImagePaths.{is_told_of_paths}
use Rattle.law_edits.specs.pt_faker.Faking.{Faking}
use Rattle.law_turns.specs.Calls.{decoded_by}
use Rattle.law_stops.specs.Scene.{IsCalm, Scene, asked, at_root_there, came_here, came_there}
use Rattle.law_stops.specs.Turning.{StayTogether}
use Rattle.law_stops.specs.Going.{ComeToFakedCall, GoesTogether, untold}
use Rattle.law_stops.specs.Reading.{RootIsKnown, TargetIsKnown}

-- a call that neither waits nor ends its caller, and makes no child
pub record JustAnswers (came : Came) : Type 0 where
  pub ends : came.end ≡ end.Answered
  pub alone : came.child ≡ None

-- one that is told of paths, and one that isn't decoded
abbrev pub IsAlongPaths : Decoded → Type 0
IsAlongPaths (Ok r) = is_told_of_paths r ≡ true
IsAlongPaths (Err e) = Unit {0}

abbrev pub PathCallsJustAnswer : Type 0
PathCallsJustAnswer = (rows : List Row) (pid : ℕ) (s : State ℕ Image) (p : Process ℕ Image) → process pid s ≡ Some p → IsAlongPaths (decoded_by p).reply → JustAnswers (plain_call rows pid s)

-- such a call keeps both machines together where it does so without an identity, the plain kernel answers it, too, and both watchers know
-- alike whether a chroot(2) led to the root, and of which inode an owner or a mode is set
pub record GoesAlongUntold (scene : Scene Faking) (r : Request) : Type 0 where
  pub answers : JustAnswers (came_there (untold scene))
  pub root : RootIsKnown r (came_here scene) (at_root_there scene r)
  pub target : TargetIsKnown r (came_here scene) (came_there (untold scene)).handed.target
  pub together : StayTogether (untold scene)

abbrev pub PathCallsGoTogether : Type 0
PathCallsGoTogether =
    (scene : Scene Faking) (r : Request) → ComeToFakedCall scene → asked scene ≡ Ok r → is_told_of_paths r ≡ true → (IsCalm scene → GoesAlongUntold scene r) → GoesTogether scene
