use Rattle.std.proofs.Common.{rules}
use Rattle.rv_cpu.proofs.ending.store_double.Goals as goal

pub returns-clause-leaves : goal.returns-clause-leaves
returns-clause-leaves g c held =
    let leaves = c.store.ensures.leaves held in
    search rules
