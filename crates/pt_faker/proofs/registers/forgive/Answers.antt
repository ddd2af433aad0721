use Rattle.pt_faker.proofs.StopLemmas.{register-edits}
use Rattle.pt_faker.proofs.registers.forgive.Goals as goal

pub returns-then-is_forgiven-clause-edits : goal.returns-then-is_forgiven-clause-edits
returns-then-is_forgiven-clause-edits g c = record { edits = register-edits (g.T.Tracee.stopped c.args.t.now) c.pid-pid.ensures.lives (g.T.Tracee.stopped c.set_reg.new.self) 10 0 c.set_reg.ensures.set; rest = c.set_reg.ensures.rest }
