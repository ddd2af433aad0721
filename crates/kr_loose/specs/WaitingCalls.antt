-- Calls that can wait. They have no path, so nothing is put in the place of another thing at their first stop; and one that comes to wait leaves
-- all as it was, but that its caller stays at it. So its first stop, made once more, finds what it found.
use Rattle.std.specs.Prelude.{◌≡◌, true, false, List, Option, None, Ok}
use Rattle.kr_core.specs.rv_mem.Actions.{carried_out}
use Rattle.kr_core.specs.rv_mem.Memory.{Memory}
use Rattle.kr_core.specs.rv_mem.declared.regs.Regs.{Regs}
use Rattle.kr_core.specs.kr_view.View.{Row}
use Rattle.kr_core.specs.kr_calm.Shelf.{has_path}
use Rattle.kr_core.specs.kr_calls.Arguments.{number}
use Rattle.kr_core.specs.kr_calls.CallTable.{ByKernel, ToldNothing, line}
use Rattle.kr_core.specs.kr_calls.Decoding.{decoding}
use Rattle.kr_core.specs.kr_calls.declared.request.Request.{Request}
use Rattle.kr_core.specs.kr_model.Laws.{may_wait}
use Rattle.kr_core.specs.kr_turns.PlainCall.{Came, plain_call}
use Rattle.kr_core.specs.kr_steps.Answering.{waiting}
use Rattle.kr_core.specs.kr_steps.Waits.{IsDecoded}
use Rattle.kr_core.specs.kr_stops.Remembering.{can_alter_shape}
use Rattle.kr_core.specs.kr_stops.Stopped.{IsThere, Stopped, image_at, image_in}
use Rattle.kr_core.specs.kr_turns.declared.plain.CallEnd.TheVariants as end
use Rattle.kr_loose.specs.Marks.{AreUnmarked}

-- ---- by what is asked

-- the registers give the request, and no memory is read for it. It is told nothing of a path, it is the kernel's alone, no shelf is marked for
-- its number, and it alters no shape
pub record HasNoPath (regs : Regs) (memory : Memory) (r : Request) : Type 0 where
  pub read : carried_out (decoding regs) memory ≡ record { reply = Ok r; memory = memory }
  pub told : (line r).told ≡ ToldNothing
  pub teller : (line r).teller ≡ ByKernel
  pub shelf : has_path (number regs) ≡ false
  pub shape : can_alter_shape regs ≡ false

-- every call that can wait is so
abbrev pub WaitingCallsHaveNoPath : Type 0
WaitingCallsHaveNoPath = (regs : Regs) (memory : Memory) (r : Request) → IsDecoded regs memory r → may_wait r ≡ true → HasNoPath regs memory r

-- ---- by what it came to

-- a call that came to wait is one of these, and leaves the state but that its caller stays at it, with its registers and its memory. No child is born
pub record LeavesAll (t : Stopped) (came : Came) : Type 0 where
  pub request : Request
  pub decoded : IsDecoded (image_at t).regs (image_at t).memory request
  pub may : may_wait request ≡ true
  pub state : came.state ≡ waiting t.pid t.state
  pub image : image_in t.pid came.state ≡ image_at t
  pub child : came.child ≡ None

-- where no byte is marked, for there a memory doesn't tell what was read of it
abbrev pub WaitsLeaveAll : Type 0
WaitsLeaveAll =
    (table : List Row) (t : Stopped) → IsThere t → AreUnmarked t.state → (plain_call table t.pid t.state).end ≡ end.Waits → LeavesAll t (plain_call table t.pid t.state)
