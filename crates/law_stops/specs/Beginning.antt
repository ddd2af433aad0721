-- An execve(2) with its stops, where an identity is told: the new program is told who it is on both machines.
use Rattle.std.specs.Prelude.{◌≡◌, ℕ, Bool, false, true, List, Some, Ok}
use Rattle.std.specs.FinMap as map
use Rattle.law_edits.specs.rv_mem.Actions.{carried_out}
use Rattle.law_edits.specs.pt_ident.Identity.{Identity}
use Rattle.law_edits.specs.kr_view.View.{Row}
use Rattle.law_turns.specs.kr_calls.declared.request.Request.{Request}
use Rattle.law_turns.specs.kr_calls.declared.request.Request.TheVariants as call
use Rattle.law_edits.specs.kr_model.State.{Image, Process, State, process}
use Rattle.law_turns.specs.kr_turns.PlainCall.{plain_call}
use Rattle.law_turns.specs.kr_stops.Stopped.{Stopped}
use Rattle.law_turns.specs.kr_turns.Turn.{called}
use Rattle.law_edits.specs.pt_faker.Faking.{Faking, has_answered_zero, show_identity, stack_register}
use Rattle.law_edits.specs.pt_faker.Stopping.{memory_at, register_at}
use Rattle.law_edits.specs.pt_tracer.Watched.{entered, has_begun, is_execve}
use Rattle.law_edits.specs.pt_tracer.declared.pending.Pending.{Pending}
use Rattle.law_turns.specs.Calls.{decoded_by}
use Rattle.law_turns.specs.Sizes.{IsSized}
use Rattle.law_stops.specs.Scene.{IsCalm, Scene, asked, came_here, came_there, caller_there}
use Rattle.law_stops.specs.Turning.{StayTogether}
use Rattle.law_stops.specs.Going.{ComeToFakedCall, GoesTogether, untold}

-- whoever it is told that it is, no marked byte is read for that
abbrev pub ReadsNoMark : Stopped → Type 0
ReadsNoMark t = (i : Identity) → (carried_out (show_identity i (register_at t stack_register)) (memory_at t)).memory.read_marked ≡ false

-- it ends alike on both kernels, a new program begins on both or on none, and without an identity the call keeps both machines together
pub record GoesUntoldToProgram (scene : Scene Faking) : Type 0 where
  pub ends : (came_here scene).end ≡ (came_there (untold scene)).end
  pub children : (came_here scene).child ≡ (came_there (untold scene)).child
  pub pending : Pending
  pub kept : map.get (entered (untold scene).traced.watcher (caller_there scene)).0.pending scene.pid ≡ Some pending
  pub begun : Bool
  pub begins : has_answered_zero (called scene.pid (came_here scene)) ≡ begun
  pub also_begins : has_begun pending (called scene.pid (came_there (untold scene))) ≡ begun
  pub together : StayTogether (untold scene)

-- so it does with one
abbrev pub ProgramsGoTogether : Type 0
ProgramsGoTogether = (scene : Scene Faking) (r : Request) → ComeToFakedCall scene → asked scene ≡ Ok r → is_execve r ≡ true → (IsCalm scene → GoesUntoldToProgram scene) → GoesTogether scene

-- where a call of execve(2) answers 0, a new program has begun, in whose memory no byte is marked
abbrev pub ProgramsReadNoMark : Type 0
ProgramsReadNoMark =
    (table : List Row) (pid : ℕ) (s : State ℕ Image) (p : Process ℕ Image) (path : List ℕ) (args env : ℕ) → process pid s ≡ Some p → IsSized p.image → (decoded_by p).reply ≡ Ok (call.Execve path args env)
    → has_answered_zero (called pid (plain_call table pid s)) ≡ true → ReadsNoMark (called pid (plain_call table pid s))
