-- A call that the tracer cancels, where the kernel with mounts answers the same error.
use Rattle.std.specs.Prelude.{◌≡◌, Ok}
use Rattle.law_turns.specs.pr_base.declared.errno.Errno.{Errno}
use Rattle.law_turns.specs.kr_calls.CallTable.{line}
use Rattle.law_turns.specs.kr_calls.declared.request.Request.{Request}
use Rattle.law_edits.specs.kr_model.Known.{known}
use Rattle.law_edits.specs.kr_model.Operation.{operation}
use Rattle.law_edits.specs.kr_model.Reply.{refuse}
use Rattle.law_edits.specs.kr_model.Seen.{WalkFails}
use Rattle.law_edits.specs.kr_model.State.{image_layout}
use Rattle.law_edits.specs.kr_model.Walks.{seen}
use Rattle.law_turns.specs.kr_steps.Calls.{IsNoExec}
use Rattle.law_turns.specs.kr_turns.Target.{LooksUpOne}
use Rattle.law_turns.specs.pt_args.declared.edit.Edit.TheVariants.{Cancel}
use Rattle.law_stops.specs.Scene.{IsCalm, Scene, asked, edit_there, here}
use Rattle.law_stops.specs.Turning.{ComeToCall, StayTogether}

-- the tracer finds a call in error, and so does the kernel with mounts
pub record IsCancelledAlike {S : Type 0} (scene : Scene S) (r : Request) (e : Errno) : Type 0 where
  pub decoded : asked scene ≡ Ok r
  pub kind : IsNoExec r
  pub cancels : edit_there scene r ≡ Cancel e
  pub refuses : operation scene.pid r (seen scene.table scene.pid (here scene) r) (known image_layout scene.pid (here scene)) ≡ refuse e
  -- if it looks up one path, the walk along it fails
  pub lost : LooksUpOne (line r).told → (f : Errno) × (seen scene.table scene.pid (here scene) r ≡ WalkFails f)

-- such a call and its stops keep the match, where it breaks no calm rule
abbrev pub CancelledCallsGoTogether : Type 0 → Type 0
CancelledCallsGoTogether S = (scene : Scene S) (r : Request) (e : Errno) → ComeToCall scene → IsCancelledAlike scene r e → IsCalm scene → StayTogether scene
