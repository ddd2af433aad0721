-- Calls along paths by what the tracer makes of them, where an identity is told: what keeps both machines together without one does so with
-- one, too.
use Rattle.std.specs.Prelude.{◌≡◌, ℤ, true, Option}
use Rattle.law_turns.specs.pr_base.declared.errno.Errno.{Errno}
use Rattle.law_turns.specs.kr_calls.declared.request.Request.{Request}
use Rattle.law_turns.specs.law_kept.ImagePaths.{is_told_of_paths}
use Rattle.law_edits.specs.pt_faker.Faking.{Faking}
use Rattle.law_edits.specs.Requests.{NewText}
use Rattle.law_stops.specs.Answering.{IsAnsweredAlike}
use Rattle.law_stops.specs.Cancelling.{IsCancelledAlike}
use Rattle.law_stops.specs.Scene.{Scene, at_root_there, came_here}
use Rattle.law_stops.specs.Swapping.{IsPassedAlike, IsSwappedAlike}
use Rattle.law_stops.specs.Going.{ComeToFakedCall, GoesTogether, untold}
use Rattle.law_stops.specs.Reading.{RootIsKnown}

-- if it is a chroot(2), both watchers know alike whether it led to the root
abbrev pub RootIsKnownAt : Scene Faking → Request → Type 0
RootIsKnownAt scene r = RootIsKnown r (came_here scene) (at_root_there scene r)

-- one whose paths the tracer swaps
abbrev pub FakedSwapsGoTogether : Type 0
FakedSwapsGoTogether =
    (scene : Scene Faking) (r : Request) (first : NewText) (second : Option NewText) → ComeToFakedCall scene → IsSwappedAlike (untold scene) r first second → RootIsKnownAt scene r → GoesTogether scene

-- one whose paths it leaves as they are
abbrev pub FakedPassesGoTogether : Type 0
FakedPassesGoTogether = (scene : Scene Faking) (r : Request) → ComeToFakedCall scene → IsPassedAlike (untold scene) r → RootIsKnownAt scene r → GoesTogether scene

-- one that it answers
abbrev pub FakedAnswersGoTogether : Type 0
FakedAnswersGoTogether = (scene : Scene Faking) (r : Request) (answer : ℤ) → ComeToFakedCall scene → IsAnsweredAlike (untold scene) r answer → RootIsKnownAt scene r → GoesTogether scene

-- and one that it cancels
abbrev pub FakedErrorsGoTogether : Type 0
FakedErrorsGoTogether =
    (scene : Scene Faking) (r : Request) (e : Errno) → ComeToFakedCall scene → IsCancelledAlike (untold scene) r e → is_told_of_paths r ≡ true → RootIsKnownAt scene r → GoesTogether scene
