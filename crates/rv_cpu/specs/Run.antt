-- Instructions one after the other.
use Rattle.std.specs.Prelude.{ℕ, zero, suc, ◌+◌, Option, None}
use Rattle.rv_mem.specs.declared.regs.Regs.{Regs}
use Rattle.rv_mem.specs.Memory.{Memory}
use Rattle.rv_mem.specs.Actions.{CarriedOut, carried_out}
use Rattle.rv_cpu.specs.declared.event.Event.{Event}
use Rattle.rv_cpu.specs.declared.event.Event.TheVariants.{Next, Call, Killed}
use Rattle.rv_cpu.specs.declared.reservation.Held.{Held}
use Rattle.rv_cpu.specs.Step.{Stepped, step}

-- how it ended, what it left, and how many instructions were done
pub record Ran : Type 0 where
  pub event : Event
  pub regs : Regs
  pub memory : Memory
  pub done : ℕ

-- after nothing, and after one instruction
abbrev pub at_rest : Regs → Memory → Ran
at_rest s m = record { event = Next; regs = s; memory = m; done = 0 }

abbrev pub after_one : CarriedOut Stepped → Ran
after_one first = record { event = first.reply.event; regs = first.reply.regs; memory = first.memory; done = 1 }

-- the same behind `before` instructions
abbrev pub counted : ℕ → Ran → Ran
counted before r = record { event = r.event; regs = r.regs; memory = r.memory; done = before + r.done }

-- `fuel` instructions, or fewer where one of them is a call or kills, which is the last that counts;
-- from a reservation on
unfoldable pub ran_holding : ℕ → Option Held → Regs → Memory → Ran
ran_holding zero held s m = at_rest s m
ran_holding (suc fuel) held s m =
    let first = carried_out (step s held) m in
    elim first.reply.event [
      | Next ↦ counted 1 (ran_holding fuel first.reply.held first.reply.regs first.memory)
      | Call ↦ after_one first
      | Killed signal ↦ after_one first
    ]

-- the same from the beginning of a turn, when nothing is reserved
abbrev pub ran : ℕ → Regs → Memory → Ran
ran fuel s m = ran_holding fuel None s m
