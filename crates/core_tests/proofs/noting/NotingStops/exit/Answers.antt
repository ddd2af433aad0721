use Rattle.core_tests.proofs.EditLemmas.{both, register-set}
use Rattle.core_tests.proofs.noting.NotingStops.exit.Goals as goal

pub returns-in-18446744073709551615-clause-edits : goal.returns-in-18446744073709551615-clause-edits
returns-in-18446744073709551615-clause-edits g c =
    let t = g.T.Tracee.stopped c.args.t.now in
    let u = g.T.Tracee.stopped c.set_reg.new.self in
    let v = g.T.Tracee.stopped c.set_reg-in-18446744073709551615.new.self in
    both t u v c.pid.ensures.lives (register-set 17 _ t u c.pid.ensures.lives c.set_reg.ensures.set) (λ there. register-set 10 _ u v there c.set_reg-in-18446744073709551615.ensures.set)

pub returns-in-56-clause-edits : goal.returns-in-56-clause-edits
returns-in-56-clause-edits g c = register-set 11 _ (g.T.Tracee.stopped c.args.t.now) (g.T.Tracee.stopped c.set_reg-in-56.new.self) c.pid.ensures.lives c.set_reg-in-56.ensures.set
