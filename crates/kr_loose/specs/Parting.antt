-- Instructions that end with a call, parted at it: those before it are as many instructions by themselves, and the call is an instruction by
-- itself. Of no other parting is anything said, since a reservation lasts as long as the instructions of one turn.
use Rattle.std.specs.Prelude.{◌≡◌, ℕ, suc, ◌-◌, ◌<◌}
use Rattle.kr_core.specs.rv_mem.Memory.{Memory}
use Rattle.kr_core.specs.rv_mem.declared.regs.Regs.{Regs}
use Rattle.kr_core.specs.rv_cpu.Run.{Ran, ran}
use Rattle.kr_core.specs.rv_cpu.declared.event.Event.TheVariants.{Next, Call}
use Rattle.kr_loose.specs.Marks.{HasNoMarks}

-- the last of some instructions was a call, and counts among them. Those before it end with the registers and the memory that it left, and there
-- it is met again, however many instructions might follow. Where it was the only one, `before` says of no instructions that both are as they were
pub record PartsAtCall (end : Ran) (regs : Regs) (memory : Memory) : Type 0 where
  pub some : 0 < end.done
  pub before : ran (end.done - 1) regs memory ≡ record { event = Next; regs = end.regs; memory = end.memory; done = end.done - 1 }
  pub again : (more : ℕ) → ran (suc more) end.regs end.memory ≡ record { event = Call; regs = end.regs; memory = end.memory; done = 1 }

-- so it is where no byte is marked. Elsewhere the memory may tell that marked bytes were read as the call was fetched
abbrev pub RunsPartAtCalls : Type 0
RunsPartAtCalls =
    (fuel : ℕ) (regs : Regs) (memory : Memory) → HasNoMarks memory.pages → (ran fuel regs memory).event ≡ Call → PartsAtCall (ran fuel regs memory) regs memory
