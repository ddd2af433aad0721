use Rattle.kr_loose.proofs.JoinLemmas.{steps-are-functions}
use Rattle.kr_core.specs.kr_turns.kr_stops.Watching.{watching}
use Rattle.kr_loose.proofs.laws.steps_are_functions.Goals as goal

pub returns : goal.returns
returns g c = steps-are-functions (λ x. x) (watching g.S.Stops.enters g.S.Stops.exits g.S.Stops.bears g.S.Stops.forgets)
