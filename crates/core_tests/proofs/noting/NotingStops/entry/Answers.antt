use Rattle.core_tests.proofs.EditLemmas.{register-set}
use Rattle.core_tests.proofs.noting.NotingStops.entry.Goals as goal

pub returns-in-172-clause-edits : goal.returns-in-172-clause-edits
returns-in-172-clause-edits g c = register-set 17 _ (g.T.Tracee.stopped c.args.t.now) (g.T.Tracee.stopped c.set_reg.new.self) c.pid.ensures.lives c.set_reg.ensures.set

pub returns-in-173-clause-edits : goal.returns-in-173-clause-edits
returns-in-173-clause-edits g c = register-set 17 _ (g.T.Tracee.stopped c.args.t.now) (g.T.Tracee.stopped c.set_reg-in-173.new.self) c.pid.ensures.lives c.set_reg-in-173.ensures.set
