use Rattle.pt_faker.proofs.StopLemmas.{poke-edits}
use Rattle.pt_faker.proofs.memory.write.Goals as goal

pub returns-in-Ok-clause-edits : goal.returns-in-Ok-clause-edits
returns-in-Ok-clause-edits g c = record { edits = poke-edits (g.T.Tracee.stopped c.args.t.now) c.pid-pid.ensures.lives (g.T.Tracee.stopped c.poke.new.self) c.args.at c.args.bytes.now c.in-Ok.ensures.after; rest = c.in-Ok.ensures.rest }
