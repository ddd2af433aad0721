use Rattle.pt_faker.proofs.StopLemmas.{peek-edits}
use Rattle.pt_faker.proofs.lists.addresses_behind.Goals as goal

pub returns-in-Ok-peek-clause-edits : goal.returns-in-Ok-peek-clause-edits
returns-in-Ok-peek-clause-edits g c = record { edits = peek-edits (g.T.Tracee.stopped c.args.t.now) c.pid-pid.ensures.lives (g.T.Tracee.stopped c.peek.new.self) _ _ c.in-Ok-peek.ensures.after; rest = c.in-Ok-peek.ensures.rest }
