use Rattle.pt_faker.proofs.StopLemmas.{peek-edits}
use Rattle.pt_faker.proofs.text.read_byte.Goals as goal

pub returns-in-Ok-clause-edits : goal.returns-in-Ok-clause-edits
returns-in-Ok-clause-edits g c = record { edits = peek-edits (g.T.Tracee.stopped c.args.t.now) c.pid-pid.ensures.lives (g.T.Tracee.stopped c.peek.new.self) c.args.at 1 c.in-Ok.ensures.after; rest = c.in-Ok.ensures.rest }
