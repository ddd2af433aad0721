use Rattle.law_walks.proofs.FactLemmas.{lasts_are_told_alike}
use Rattle.law_walks.proofs.facts.lasts_are_told_alike.Goals as goal

pub returns : goal.returns
returns g c = lasts_are_told_alike
