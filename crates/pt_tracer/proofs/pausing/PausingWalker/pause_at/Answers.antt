use Rattle.pt_faker.proofs.StopLemmas.{on_ok}
use Rattle.pt_tracer.proofs.PauseLemmas.{caller-agrees, pauses-caller, spares-caller}
use Rattle.pt_tracer.proofs.pausing.PausingWalker.pause_at.Goals as goal

pub returns-then-not-can_alter_shape-clause-frees : goal.returns-then-not-can_alter_shape-clause-frees
returns-then-not-can_alter_shape-clause-frees g c = spares-caller c.args.self.now (g.T.Tracee.stopped c.args.t.now) c.can_alter_shape.result c.can_alter_shape.ensures c.if-not-can_alter_shape.true

pub returns-then-not-can_alter_shape-clause-others : goal.returns-then-not-can_alter_shape-clause-others
returns-then-not-can_alter_shape-clause-others g c = λ q paused. paused

pub returns-clause-agrees : goal.returns-clause-agrees
returns-clause-agrees g c = on_ok c.pause_for.result (λ paused. caller-agrees c.pause_for.new.self c.pid-pid.result (g.T.Tracee.stopped c.args.t.now) paused) c.pause_for.ensures.paused

pub returns-clause-frees : goal.returns-clause-frees
returns-clause-frees g c = on_ok c.pause_for.result (λ paused. pauses-caller c.pause_for.new.self (g.T.Tracee.stopped c.args.t.now) c.pid-pid.result c.pid-pid.ensures.pid paused) c.pause_for.ensures.paused
