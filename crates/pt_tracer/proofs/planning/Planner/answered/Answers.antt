use Rattle.pt_tracer.proofs.AgreeLemmas.{agrees-told, walks-at}
use Rattle.pt_tracer.proofs.planning.Planner.answered.Goals as goal

pub link_answer-requires : goal.link_answer-requires
link_answer-requires g c = record { agrees = agrees-told g.T.Tracee.stopped g.T.Peeks.peeked g.met.T.Tracee.peeks_at_state c.args.walker.now c.args.t.now c.requires.agrees }

pub returns-in-Readlinkat-clause-walker : goal.returns-in-Readlinkat-clause-walker
returns-in-Readlinkat-clause-walker g c =
    walks-at g.T.Tracee.stopped g.T.Peeks.peeked g.met.T.Tracee.peeks_at_state c.args.walker.now c.link_answer.new.walker c.args.t.now c.pid-pid.ensures.sound c.link_answer.ensures.walker
