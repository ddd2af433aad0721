use Rattle.pt_tracer.proofs.AgreeLemmas.{agrees-told, walks-at}
use Rattle.pt_tracer.proofs.planning.ExecvePlanner.expanded.Goals as goal

pub expand-requires : goal.expand-requires
expand-requires g c = record { agrees = agrees-told g.T.Tracee.stopped g.T.Peeks.peeked g.met.T.Tracee.peeks_at_state c.args.walker.now c.args.t.now c.requires.agrees }

pub returns-clause-walker : goal.returns-clause-walker
returns-clause-walker g c =
    walks-at g.T.Tracee.stopped g.T.Peeks.peeked g.met.T.Tracee.peeks_at_state c.args.walker.now c.expand.new.walker c.args.t.now c.pid-pid.ensures.sound c.expand.ensures.walker
