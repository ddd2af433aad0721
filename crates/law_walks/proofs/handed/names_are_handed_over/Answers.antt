use Rattle.law_walks.proofs.NamedLemmas.{names_are_handed_over}
use Rattle.law_walks.proofs.handed.names_are_handed_over.Goals as goal

pub returns : goal.returns
returns c = names_are_handed_over
