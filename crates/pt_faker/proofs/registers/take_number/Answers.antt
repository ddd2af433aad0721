use Rattle.pt_faker.specs.Faking.{no_call}
use Rattle.pt_faker.proofs.StopLemmas.{register-edits}
use Rattle.pt_faker.proofs.registers.take_number.Goals as goal

pub returns-clause-edits : goal.returns-clause-edits
returns-clause-edits g c = record { edits = register-edits (g.T.Tracee.stopped c.args.t.now) c.pid-pid.ensures.lives (g.T.Tracee.stopped c.set_reg.new.self) 17 no_call c.set_reg.ensures.set; rest = c.set_reg.ensures.rest }
