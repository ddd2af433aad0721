use Rattle.pt_tracer.specs.kr_stops.Watching.{watching}
use Rattle.kr_loose.proofs.JoinLemmas.{steps-are-functions}
use Rattle.pr_run.proofs.laws.parts_step.Goals as goal

pub returns : goal.returns
returns g c = steps-are-functions g.S.Graphed.part (watching g.S.Stops.enters g.S.Stops.exits g.S.Stops.bears g.S.Stops.forgets)
