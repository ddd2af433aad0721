use Rattle.std.proofs.Common.{rules, refl, arith, ◌≡◌}
use Rattle.rv_mem.specs.rv_table.Small.{instr_of}
use Rattle.rv_cpu.specs.Step.{executed_word, holds, kills}
use Rattle.rv_cpu.proofs.execution.execute_amo.Goals as goal

pub returns-in_default : goal.returns-in_default
returns-in_default g c =
    let none : (held : _) → executed_word c.args.regs.now held (instr_of c.args.found) ≡ holds held (kills 4 c.args.regs.now) = search rules in
    record { leaves = λ held. let is = none held in search rules; signal = omega arith; kept = (refl, refl); count = refl }
