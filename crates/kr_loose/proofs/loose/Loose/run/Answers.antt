use Rattle.kr_core.specs.kr_turns.kr_stops.Watching.{watching}
use Rattle.kr_loose.proofs.GoneLemmas.{run-gone}
use Rattle.kr_loose.proofs.loose.Loose.run.Goals as goal

pub returns-clause-goes : goal.returns-clause-goes
returns-clause-goes g c =
    let w = watching g.S.Stops.enters g.S.Stops.exits g.S.Stops.bears g.S.Stops.forgets in
    run-gone g.P.Places.number w g.S.Stops.asks _ c.args.fuel c.args.pid _ c.run_pid.new.self c.in_ok-_done.ensures.counted _ c.in_ok-_done.ensures.met c.in_ok-_done._done c.requires.phase c.in_ok-_done.ensures.moves
