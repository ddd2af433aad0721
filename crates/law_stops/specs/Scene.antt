-- Two machines as a process comes to its call on both: one with mounts, and a plain one that the tracer watches.
use Rattle.std.specs.Prelude.{◌≡◌, ℕ, Bool, List, None}
use Rattle.law_turns.specs.pt_args.declared.edit.Edit.{Edit}
use Rattle.law_edits.specs.pt_canon.TextWalk.{TextSurroundings}
use Rattle.law_turns.specs.kr_calls.Decoding.{Decoded}
use Rattle.law_turns.specs.kr_calls.declared.request.Request.{Request}
use Rattle.law_edits.specs.kr_view.View.{Row, plain}
use Rattle.law_edits.specs.kr_model.State.{Image, State}
use Rattle.law_turns.specs.kr_stops.Stopped.{Stopped}
use Rattle.law_turns.specs.kr_stops.Watching.{unwatched}
use Rattle.law_turns.specs.kr_turns.PlainCall.{Came, plain_call}
use Rattle.law_turns.specs.kr_turns.Turn.{Machine, calling, watched_call}
use Rattle.law_edits.specs.pt_faker.Stopping.{after_request, decoded_at}
use Rattle.law_edits.specs.pt_tracer.Planning.{edit_for, planned, texts_at}
use Rattle.law_edits.specs.pt_tracer.Watched.{Tracing, entered, tracer}

-- the mounts of the one machine, how many turns were made on both, who calls, and both machines, the one with whatever watches it
pub record Scene (S : Type 0) : Type 0 where
  pub table : List Row
  pub made : ℕ
  pub pid : ℕ
  pub mounted : Machine S
  pub traced : Machine Tracing

module _ {S : Type 0} (scene : Scene S) where
  -- the process as it comes to the call on both
  abbrev pub caller_here : Stopped
  caller_here = calling 1 scene.pid scene.mounted.state

  abbrev pub caller_there : Stopped
  caller_there = calling 0 scene.pid scene.traced.state

  -- what it asks for
  abbrev pub asked : Decoded
  asked = (decoded_at caller_here).reply

  -- the mounted machine as its process is at the call, behind decoding; the plain one as the tracer has read the call
  abbrev pub at_call : Stopped
  at_call = after_request caller_here

  abbrev pub at_first_stop : Stopped
  at_first_stop = after_request caller_there

  -- the mounted kernel's state at the call
  abbrev pub here : State ℕ Image
  here = at_call.state

  -- what the tracer goes by as it plans, and its edit of a call that is no execve(2)
  abbrev pub texts_there : TextSurroundings
  texts_there = texts_at scene.traced.watcher.bindings scene.traced.watcher.tags at_first_stop

  abbrev pub edit_there : Request → Edit
  edit_there r = edit_for texts_there at_first_stop r

  -- whether its path leads to the root, as the tracer plans
  abbrev pub at_root_there : Request → Bool
  at_root_there r = (planned scene.traced.watcher.bindings scene.traced.watcher.tags at_first_stop r).0.led.at_root

  -- what the call comes to on each kernel
  abbrev pub came_here : Came
  came_here = plain_call scene.table scene.pid caller_here.state

  abbrev pub came_there : Came
  came_there = plain_call plain scene.pid (entered scene.traced.watcher caller_there).1.state

  -- both machines behind the call and its stops, where nobody watches the mounted one
  abbrev pub mounted_after : Machine S
  mounted_after = watched_call unwatched 1 scene.table scene.pid scene.mounted

  abbrev pub traced_after : Machine Tracing
  traced_after = watched_call tracer 0 plain scene.pid scene.traced

  -- it breaks no calm rule
  abbrev pub IsCalm : Type 0
  IsCalm = mounted_after.tally.broken ≡ None
