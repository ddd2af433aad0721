use Rattle.pt_tracer.specs.kr_stops.Watching.{watching}
use Rattle.kr_loose.proofs.kr_turns.JoinLemmas.{turns-are-functions}
use Rattle.pr_run.proofs.laws.parts_turn.Goals as goal

pub returns : goal.returns
returns g c = turns-are-functions g.S.Graphed.part (watching g.S.Stops.enters g.S.Stops.exits g.S.Stops.bears g.S.Stops.forgets)
