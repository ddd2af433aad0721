use Rattle.core_tests.proofs.EditLemmas.{both, poked, register-set}
use Rattle.core_tests.proofs.noting.Noting.show.Goals as goal

pub returns-in-Ok-clause-edits : goal.returns-in-Ok-clause-edits
returns-in-Ok-clause-edits g c =
    let t = g.T.Tracee.stopped c.args.t.now in
    let u = g.T.Tracee.stopped c.poke.new.self in
    both t u (g.T.Tracee.stopped c.set_reg.new.self) c.requires (poked _ _ t u c.requires c.in-Ok.ensures.after) (λ there. register-set 10 _ u (g.T.Tracee.stopped c.set_reg.new.self) there c.set_reg.ensures.set)
