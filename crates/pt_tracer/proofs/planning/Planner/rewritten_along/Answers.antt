use Rattle.pt_results.specs.pt_args.Edits.{edit_of}
use Rattle.pt_results.specs.pt_canon.Canon.{texts_by}
use Rattle.pt_tracer.proofs.AgreeLemmas.{agrees-told, walks-at}
use Rattle.pt_tracer.proofs.PlanLemmas.{if_ok, swap-used}
use Rattle.pt_tracer.proofs.planning.Planner.rewritten_along.Goals as goal

pub rewrite_along-requires-clause-agrees : goal.rewrite_along-requires-clause-agrees
rewrite_along-requires-clause-agrees g c = agrees-told g.T.Tracee.stopped g.T.Peeks.peeked g.met.T.Tracee.peeks_at_state c.args.walker.now c.args.t.now c.requires.agrees

pub returns-clause-walker : goal.returns-clause-walker
returns-clause-walker g c =
    walks-at g.T.Tracee.stopped g.T.Peeks.peeked g.met.T.Tracee.peeks_at_state c.args.walker.now c.rewrite_along.new.walker c.args.t.now c.pid-pid.ensures.sound c.rewrite_along.ensures.walker

pub returns-clause-room : goal.returns-clause-room
returns-clause-room g c =
    let planner = c.args.self.now in
    let texts = texts_by c.args.walker.now.table (g.T.Peeks.peeked c.args.t.now) planner.tags.now in
    let edit = edit_of texts c.pid-pid.result c.reg-sp.result c.has_shelf-shelf.result planner.request.now in
    if_ok c.rewrite_along.result (λ r is swaps. c.has_shelf-shelf.ensures.room (swap-used r.edit edit is swaps (c.edits_keep_to_paths.ensures.used texts c.pid-pid.result c.reg-sp.result c.has_shelf-shelf.result planner.request.now)))
    c.rewrite_along.ensures.edit
