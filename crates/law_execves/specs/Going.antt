-- Execve(2) with its stops, by what the tracer leaves at the first one: it cancels the call, or the plain kernel finds another execve.
use Rattle.std.specs.FinMap as map
use Rattle.std.specs.Prelude.{◌≡◌, ℕ, ℤ, Bool, List, Option, None, Some, Result, Ok, Err, slice_set}
use Rattle.law_programs.specs.pr_base.declared.errno.Errno.{Errno}
use Rattle.law_programs.specs.rv_mem.Actions.{AreEqualUnmarked, CarriedOut, carried_out}
use Rattle.law_programs.specs.rv_mem.Layout.{layout_of}
use Rattle.law_programs.specs.rv_mem.Memory.{Memory}
use Rattle.law_programs.specs.rv_mem.Pages.{HoldsBytes, IsPlaced, IsWhole}
use Rattle.law_programs.specs.rv_mem.declared.regs.Regs.{Regs}
use Rattle.law_stops.specs.kr_view.View.{plain}
use Rattle.law_stops.specs.kr_calls.Decoding.{decoding}
use Rattle.law_stops.specs.kr_calls.declared.request.Request.{Request}
use Rattle.law_stops.specs.kr_calls.declared.request.Request.TheVariants as call
use Rattle.law_plans.specs.kr_seen.Carrying.{memory_of}
use Rattle.law_programs.specs.kr_execve.Execution.{Program, execution}
use Rattle.law_stops.specs.kr_model.State.{Image, State}
use Rattle.law_stops.specs.kr_turns.PlainCall.{Came}
use Rattle.law_stops.specs.kr_stops.Stopped.{IsThere, edited, image_at}
use Rattle.law_stops.specs.kr_turns.Turn.{called}
use Rattle.law_stops.specs.pt_ident.Identity.{refusal}
use Rattle.law_stops.specs.pt_faker.Faking.{has_answered_zero, no_longer_called, word_of}
use Rattle.law_stops.specs.pt_faker.Stopping.{after_request, memory_at, with_memory}
use Rattle.law_stops.specs.pt_tracer.Registers.{arguments_at}
use Rattle.law_stops.specs.pt_tracer.Watched.{Tracing, awaiting, entered, exited, has_begun, with_pending}
use Rattle.law_stops.specs.pt_tracer.declared.pending.Pending.{Pending}
use Rattle.law_stops.specs.pt_tracer.declared.plan.Led.{Led}
use Rattle.law_stops.specs.law_edits.Exits.{left_with}
use Rattle.law_stops.specs.Scene.{IsCalm, Scene, asked, at_first_stop, came_here, came_there, caller_here, caller_there, here}
use Rattle.law_stops.specs.Turning.{ComeToCall, StayTogether}
use Rattle.law_programs.specs.Executing.{LoadedAlike}

module _ {S : Type 0} (scene : Scene S) (path : List ℕ) (args env : ℕ) where
  abbrev pub own : Request
  own = call.Execve path args env

  -- what the kernel with mounts comes to
  abbrev pub done_here : CarriedOut (Result Program Errno)
  done_here = carried_out (execution scene.table scene.pid (here scene) path args env) (memory_of scene.pid (here scene))

  -- what the tracer keeps for the second stop
  abbrev pub kept_for : Led → Option ℤ → Tracing
  kept_for led answer = with_pending (map.insert scene.traced.watcher.pending scene.pid (awaiting (arguments_at (at_first_stop scene)) own led answer)) scene.traced.watcher

  -- it cancels the call with the error that the kernel with mounts answers, whatever it has read of the memory for that
  pub record IsExecveCancelled (e : Errno) : Type 0 where
    pub decoded : asked scene ≡ Ok own
    pub refuses : done_here.reply ≡ Err e
    pub led : Led
    pub read : Memory
    pub pages : read.pages ≡ (memory_at (at_first_stop scene)).pages
    pub enters : entered scene.traced.watcher (caller_there scene) ≡ (kept_for led (Some (refusal e)), no_longer_called (with_memory read (at_first_stop scene)))

  -- ---- or it leaves the process with other registers and another memory

  module _ (registers : List ℕ) (memory : Memory) where
    abbrev pub new_regs : Regs
    new_regs = record { x = registers; pc = (image_at (caller_there scene)).regs.pc }

    -- the plain kernel's state behind its own decoding
    abbrev pub there : State ℕ Image
    there = (after_request (edited new_regs memory (caller_there scene))).state

    abbrev pub done_there : List ℕ → ℕ → CarriedOut (Result Program Errno)
    done_there host put = carried_out (execution plain scene.pid there host put env) (memory_of scene.pid there)

    -- in which the plain kernel finds another path and other arguments. All marked bytes apart, the memory is as it was; and where that
    -- execve is refused, the registers are given back at the second stop, but for the error
    pub record IsExecveEntered (led : Led) (host : List ℕ) (put : ℕ) : Type 0 where
      pub decoded : asked scene ≡ Ok own
      pub enters : entered scene.traced.watcher (caller_there scene) ≡ (kept_for led None, edited new_regs memory (caller_there scene))
      pub whole : IsWhole memory.pages
      pub placed : IsPlaced memory.pages
      pub layout : layout_of memory.pages ≡ layout_of (memory_at (caller_there scene)).pages
      pub bytes : HoldsBytes memory.pages
      pub unmarked : AreEqualUnmarked (memory_at (caller_here scene)).pages memory.pages
      pub finds : (carried_out (decoding new_regs) memory).reply ≡ Ok (call.Execve host put env)
      pub exits : (came : Came) (e : Errno) → IsThere (called scene.pid came) → (image_at (called scene.pid came)).regs.x ≡ slice_set registers 10 (word_of (refusal e))
          → exited (kept_for led None) (called scene.pid came) ≡ left_with (kept_for led None) (called scene.pid came) own led (word_of (refusal e)) (image_at (caller_there scene)).regs.x

-- ---- behind such a call

-- it keeps the match and ends alike on both kernels, and a new program begins on both or on none
pub record GoesOn {S : Type 0} (scene : Scene S) : Type 0 where
  pub together : StayTogether scene
  pub ends : (came_here scene).end ≡ (came_there scene).end
  pub children : (came_here scene).child ≡ (came_there scene).child
  pub pending : Pending
  pub kept : map.get (entered scene.traced.watcher (caller_there scene)).0.pending scene.pid ≡ Some pending
  pub begun : Bool
  pub begins : has_answered_zero (called scene.pid (came_here scene)) ≡ begun
  pub also_begins : has_begun pending (called scene.pid (came_there scene)) ≡ begun

-- such calls and their stops keep the match, where they break no calm rule
abbrev pub CancelledExecvesGoTogether : Type 0 → Type 0
CancelledExecvesGoTogether S = (scene : Scene S) (path : List ℕ) (args env : ℕ) (e : Errno) → ComeToCall scene → IsExecveCancelled scene path args env e → IsCalm scene → StayTogether scene

-- where both kernels are refused alike, or load the same program, of whose file the tracer has the index
abbrev pub EnteredExecvesGoTogether : Type 0 → Type 0
EnteredExecvesGoTogether S =
    (scene : Scene S) (path : List ℕ) (args env : ℕ) (registers : List ℕ) (memory : Memory) (led : Led) (host : List ℕ) (put : ℕ) → ComeToCall scene → IsExecveEntered scene path args env registers memory led host put
    → LoadedAlike scene.table (here scene) scene.pid scene.traced.watcher.tags led.index (done_here scene path args env).reply (done_there scene path args env registers memory host put).reply
    → IsCalm scene → StayTogether scene
