use Rattle.kr_turns.proofs.JoinLemmas.{turns-are-functions}
use Rattle.kr_steps.specs.kr_stops.Watching.{watching}
use Rattle.kr_turns.proofs.laws.turns_are_functions.Goals as goal

pub returns : goal.returns
returns g c = turns-are-functions (λ x. x) (watching g.S.Stops.enters g.S.Stops.exits g.S.Stops.bears g.S.Stops.forgets)
