use Rattle.std.proofs.Common.{◌≡◌}
use Rattle.rv_cpu.specs.Run.{Ran, ran}
use Rattle.kr_perform.proofs.kr_ops.OpeningLemmas.{not-living}
use Rattle.kr_steps.specs.Computing.{Computes}
use Rattle.kr_steps.proofs.ComputingLemmas.{computes-now, ok-computes, ok-runs, runs-on}
use Rattle.kr_steps.proofs.instructions.compute.Goals as goal

pub unreachable-requires : goal.unreachable-requires
unreachable-requires g c = not-living c.args.state.now c.args.pid (c.index_of.ensures.none c.in_default.is) c.requires.lives

pub returns-clause-computes : goal.returns-clause-computes
returns-clause-computes g c =
    let s = c.args.state.now in
    let p = c.index_mut-process.result.now in
    let end : Ran = ran c.args.fuel p.regs p.mem in
    ok-computes c.run.result (λ e. e.0 ≡ end.event) (λ e. e.1 ≡ end.done) (λ e. Computes c.args.pid c.args.fuel s _ e.0 e.1) (c.run.new.regs ≡ end.regs) (c.run.new.mem ≡ end.memory)
    c.run.ensures.event c.run.ensures.done c.run.ensures.regs c.run.ensures.memory
    (λ e ends counts regs mem. computes-now s c.args.pid c.in-Some.k p c.requires.sound c.in-Some.ensures.some c.index_mut-process.ensures.value c.args.fuel c.run.new.regs c.run.new.mem regs mem e.0 e.1 ends counts)

pub returns-clause-runs : goal.returns-clause-runs
returns-clause-runs g c =
    let s = c.args.state.now in
    let p = c.index_mut-process.result.now in
    let end : Ran = ran c.args.fuel p.regs p.mem in
    ok-runs c.run.result (c.run.new.regs ≡ end.regs) (c.run.new.mem ≡ end.memory) _ c.run.ensures.regs c.run.ensures.memory
    (λ regs mem. runs-on s c.args.pid c.in-Some.k p c.requires.sound c.in-Some.ensures.some c.index_mut-process.ensures.value c.args.fuel c.run.new.regs c.run.new.mem regs mem)
