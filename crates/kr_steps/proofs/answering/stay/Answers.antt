use Rattle.std.proofs.Common.{true}
use Rattle.kr_perform.proofs.kr_ops.ChangeLemmas.{nobody-changed}
use Rattle.kr_steps.specs.Answering.{going}
use Rattle.kr_steps.proofs.ComputingLemmas.{going-means, going-runs}
use Rattle.kr_steps.proofs.answering.stay.Goals as goal

pub returns-in-Some-clause-stays : goal.returns-in-Some-clause-stays
returns-in-Some-clause-stays g c =
    let s = c.args.state.now in
    let p = c.index_mut-process.result.now in
    going-means s c.args.pid c.in-Some.k p c.requires c.in-Some.ensures.some c.index_mut-process.ensures.value (λ regs. regs) true

pub returns-in-Some-clause-runs : goal.returns-in-Some-clause-runs
returns-in-Some-clause-runs g c =
    let s = c.args.state.now in
    let p = c.index_mut-process.result.now in
    going-runs s c.args.pid c.in-Some.k p c.requires c.in-Some.ensures.some c.index_mut-process.ensures.value (λ regs. regs) true

pub returns-in_default-clause-stays : goal.returns-in_default-clause-stays
returns-in_default-clause-stays g c = nobody-changed c.args.state.now c.args.pid (going (λ regs. regs) true) (c.index_of.ensures.none c.in_default.is)
