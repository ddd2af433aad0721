-- Instructions of a process in a state, and the decoding of the call at which it comes to stand.
use Rattle.std.specs.Prelude.{◌≡◌, ℕ, Some, Result}
use Rattle.rv_cpu.specs.rv_mem.Actions.{carried_out}
use Rattle.rv_cpu.specs.Run.{ran}
use Rattle.rv_cpu.specs.declared.event.Event.{Event}
use Rattle.kr_perform.specs.kr_calls.Decodes.{Gives}
use Rattle.kr_perform.specs.kr_calls.Decoding.{decoding}
use Rattle.kr_perform.specs.kr_calls.declared.fault.CallFault.{CallFault}
use Rattle.kr_perform.specs.kr_calls.declared.request.Request.{Request}
use Rattle.kr_perform.specs.kr_model.State as model
use Rattle.kr_perform.specs.kr_ops.declared.state.State.{State}
use Rattle.kr_perform.specs.kr_ops.Meaning.{meaning}
pub use Rattle.kr_stops.specs.Stopped.{computed}

module _ {T : Type 0} {M : ℕ} where
  -- a living process did `fuel` instructions, or fewer where one of them is a call or kills it
  pub record Computes (pid fuel : ℕ) (old new : State T M) (event : Event) (done : ℕ) : Type 0 where
    pub process : model.Process T model.Image
    pub lives : model.process pid (meaning old) ≡ Some process
    pub ends : event ≡ (ran fuel process.image.regs process.image.memory).event
    pub counts : done ≡ (ran fuel process.image.regs process.image.memory).done
    pub leaves : meaning new ≡ computed pid (ran fuel process.image.regs process.image.memory).regs (ran fuel process.image.regs process.image.memory).memory (meaning old)

  -- the request of a living process was decoded from its registers and its memory, or the error of that; what was read of the
  -- memory is noted there
  pub record Requests (pid : ℕ) (old new : State T M) (result : Result Request CallFault) : Type 0 where
    pub process : model.Process T model.Image
    pub lives : model.process pid (meaning old) ≡ Some process
    pub gives : Gives result (carried_out (decoding process.image.regs) process.image.memory) (carried_out (decoding process.image.regs) process.image.memory).memory
    pub leaves : meaning new ≡ computed pid process.image.regs (carried_out (decoding process.image.regs) process.image.memory).memory (meaning old)
