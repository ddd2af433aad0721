use Rattle.law_walks.proofs.FactLemmas.{names_are_told_alike}
use Rattle.law_walks.proofs.facts.names_are_told_alike.Goals as goal

pub returns : goal.returns
returns g c = names_are_told_alike
