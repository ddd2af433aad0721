-- Calls with their stops, on a machine with mounts on which processes are told an identity, and on a plain one with the tracer.
use Rattle.std.specs.Prelude.{◌≡◌, None, Some, Ok}
use Rattle.law_turns.specs.kr_calls.declared.request.Request.{Request}
use Rattle.law_turns.specs.kr_steps.Calls.{IsNoExec}
use Rattle.law_turns.specs.kr_turns.Turn.{called}
use Rattle.law_edits.specs.pt_ident.Identity.{Effect, effect}
use Rattle.law_edits.specs.pt_ident.IdentityTable.{identity_at}
use Rattle.law_edits.specs.pt_faker.Faking.{Faking, due_of, is_root}
use Rattle.law_stops.specs.Scene.{IsCalm, Scene, asked, at_root_there, came_here, came_there}
use Rattle.law_stops.specs.Turning.{HasNoPath, StayTogether}
use Rattle.law_stops.specs.Editing.{IsEditedAlike}
use Rattle.law_stops.specs.Going.{ComeToFakedCall, GoesTogether, untold}

module _ (scene : Scene Faking) (r : Request) where
  -- a call that the kernels carry out: none on users and groups, and no execve(2)
  pub record IsTheKernels : Type 0 where
    pub decoded : asked scene ≡ Ok r
    pub kind : IsNoExec r
    pub none : effect (identity_at scene.mounted.watcher.identities scene.pid) r ≡ None

  -- where no identity is told, it ends alike on both, the edit of its answer is the same, and it keeps both machines together
  pub record GoesUntold : Type 0 where
    pub ends : (came_here scene).end ≡ (came_there (untold scene)).end
    pub children : (came_here scene).child ≡ (came_there (untold scene)).child
    pub edit : IsEditedAlike scene.mounted.watcher (called scene.pid (came_here scene)) (at_root_there scene r) (came_there (untold scene)).handed.target (due_of (is_root scene.mounted.watcher) r)
    pub together : StayTogether (untold scene)

-- such a call keeps both machines together, with an identity, too, where it breaks no calm rule
abbrev pub KernelsCallsGoTogether : Type 0
KernelsCallsGoTogether = (scene : Scene Faking) (r : Request) → ComeToFakedCall scene → IsTheKernels scene r → (IsCalm scene → GoesUntold scene r) → GoesTogether scene

-- so does a call on users and groups, which both watchers answer in place of the kernel
abbrev pub IdentityCallsGoTogether : Type 0
IdentityCallsGoTogether =
    (scene : Scene Faking) (r : Request) (e : Effect) → ComeToFakedCall scene → asked scene ≡ Ok r → effect (identity_at scene.mounted.watcher.identities scene.pid) r ≡ Some e → GoesTogether scene

-- and so does every call without a path, and one that isn't decoded
abbrev pub FakedCallsGoTogether : Type 0
FakedCallsGoTogether = (scene : Scene Faking) → ComeToFakedCall scene → HasNoPath (asked scene) → GoesTogether scene
