-- A load and a store leave the reservation as it is.
use Rattle.std.proofs.Common.{rules}
use Rattle.rv_cpu.proofs.execution.execute.Goals as goal

pub returns-in-Lb-clause-leaves : goal.returns-in-Lb-clause-leaves
returns-in-Lb-clause-leaves g c =
    let leaves = c.load.ensures.leaves c.args.held.now in
    search rules

pub returns-in-Lh-clause-leaves : goal.returns-in-Lh-clause-leaves
returns-in-Lh-clause-leaves g c =
    let leaves = c.load-in-Lh.ensures.leaves c.args.held.now in
    search rules

pub returns-in-Lw-clause-leaves : goal.returns-in-Lw-clause-leaves
returns-in-Lw-clause-leaves g c =
    let leaves = c.load-in-Lw.ensures.leaves c.args.held.now in
    search rules

pub returns-in-Ld-clause-leaves : goal.returns-in-Ld-clause-leaves
returns-in-Ld-clause-leaves g c =
    let leaves = c.load-in-Ld.ensures.leaves c.args.held.now in
    search rules

pub returns-in-Lbu-clause-leaves : goal.returns-in-Lbu-clause-leaves
returns-in-Lbu-clause-leaves g c =
    let leaves = c.load-in-Lbu.ensures.leaves c.args.held.now in
    search rules

pub returns-in-Lhu-clause-leaves : goal.returns-in-Lhu-clause-leaves
returns-in-Lhu-clause-leaves g c =
    let leaves = c.load-in-Lhu.ensures.leaves c.args.held.now in
    search rules

pub returns-in-Lwu-clause-leaves : goal.returns-in-Lwu-clause-leaves
returns-in-Lwu-clause-leaves g c =
    let leaves = c.load-in-Lwu.ensures.leaves c.args.held.now in
    search rules

pub returns-in-Sb-clause-leaves : goal.returns-in-Sb-clause-leaves
returns-in-Sb-clause-leaves g c =
    let leaves = c.store_byte.ensures.leaves c.args.held.now in
    search rules

pub returns-in-Sh-clause-leaves : goal.returns-in-Sh-clause-leaves
returns-in-Sh-clause-leaves g c =
    let leaves = c.store_half.ensures.leaves c.args.held.now in
    search rules

pub returns-in-Sw-clause-leaves : goal.returns-in-Sw-clause-leaves
returns-in-Sw-clause-leaves g c =
    let leaves = c.store_word.ensures.leaves c.args.held.now in
    search rules

pub returns-in-Sd-clause-leaves : goal.returns-in-Sd-clause-leaves
returns-in-Sd-clause-leaves g c =
    let leaves = c.store_double.ensures.leaves c.args.held.now in
    search rules
