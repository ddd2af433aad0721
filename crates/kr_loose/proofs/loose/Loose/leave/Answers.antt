use Rattle.kr_core.specs.kr_turns.kr_stops.Watching.{watching}
use Rattle.kr_loose.proofs.GoneLemmas.{leave-gone}
use Rattle.kr_loose.proofs.loose.Loose.leave.Goals as goal

pub returns-clause-goes : goal.returns-clause-goes
returns-clause-goes g c = λ fuel.
    let w = watching g.S.Stops.enters g.S.Stops.exits g.S.Stops.bears g.S.Stops.forgets in
    leave-gone g.P.Places.number w g.S.Stops.asks _ fuel c.args.pid _ c.leave.new.self c.in_ok-leave.ensures.counted _ c.in_ok-leave.ensures.met c.requires.phase (c.in_ok-leave.ensures.moves fuel)
