use Rattle.law_walks.proofs.FactLemmas.{found_is_told_alike}
use Rattle.law_walks.proofs.facts.found_is_told_alike.Goals as goal

pub returns : goal.returns
returns g c = found_is_told_alike
