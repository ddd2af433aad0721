use Rattle.kr_turns.proofs.StepLemmas.{watched-calls-are-three-steps}
use Rattle.kr_steps.specs.kr_stops.Watching.{watching}
use Rattle.kr_turns.proofs.laws.watched_calls_are_three_steps.Goals as goal

pub returns : goal.returns
returns g c = watched-calls-are-three-steps (watching g.S.Stops.enters g.S.Stops.exits g.S.Stops.bears g.S.Stops.forgets)
