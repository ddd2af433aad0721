use Rattle.pr_run.proofs.SteppingLemmas.{quiet-by-part}
use Rattle.pr_run.proofs.stepping.is_quiet.Goals as goal

pub returns : goal.returns
returns g c =
    let loose = c.args.loose.now in
    quiet-by-part g.P.Places.number g.S.Graphed.part g.S.Stops.asks g.P.Places.mounts c.parts_are_quiet.ensures g.S.Graphed.asked g.met.S.Graphed.asks_by_part loose.kernel loose.judge c.quiet.result c.quiet.ensures
