-- What instructions do on memories that are equal but for marked bytes, and where they end with a call.
use Rattle.std.specs.Prelude.{◌≡◌, ◌<◌, ℕ, false, Option}
use Rattle.rv_mem.specs.declared.regs.Regs.{Regs}
use Rattle.rv_mem.specs.Memory.{Memory}
use Rattle.rv_mem.specs.Actions.{AreEqualUnmarked, ReadsAlike}
use Rattle.rv_mem.specs.Pages.{IsPlaced}
use Rattle.rv_cpu.specs.declared.event.Event.TheVariants.{Call}
use Rattle.rv_cpu.specs.declared.reservation.Held.{Held}
use Rattle.rv_cpu.specs.Step.{step}
use Rattle.rv_cpu.specs.Run.{Ran, ran}

-- equal events and registers, as many instructions, and memories that are equal but for the bytes
-- that are marked in the first
pub record EndAlike (one other : Ran) : Type 0 where
  pub event : one.event ≡ other.event
  pub regs : one.regs ≡ other.regs
  pub done : one.done ≡ other.done
  pub memory : AreEqualUnmarked one.memory.pages other.memory.pages

abbrev pub StepsAreAlike : Type 0
StepsAreAlike = (s : Regs) (held : Option Held) → ReadsAlike (step s held)

abbrev pub RunsAreAlike : Type 0
RunsAreAlike =
    (fuel : ℕ) (s : Regs) (m w : Memory) → AreEqualUnmarked m.pages w.pages
    → (ran fuel s m).memory.read_marked ≡ false → EndAlike (ran fuel s m) (ran fuel s w)

-- where every page lies below the last address, so does the call that instructions end with
abbrev pub CallsStandInPages : Type 0
CallsStandInPages =
    (fuel : ℕ) (regs : Regs) (memory : Memory) → IsPlaced memory.pages
    → (ran fuel regs memory).event ≡ Call → (ran fuel regs memory).regs.pc < 0x3F_FFFF_F000
