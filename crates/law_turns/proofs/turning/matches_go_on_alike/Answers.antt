use Rattle.law_turns.proofs.PickLemmas.{matches_go_on_alike}
use Rattle.law_turns.proofs.turning.matches_go_on_alike.Goals as goal

pub returns : goal.returns
returns g c = matches_go_on_alike
