use Rattle.law_walks.proofs.NamedLemmas.{directories_of_names_are_searched}
use Rattle.law_walks.proofs.handed.directories_of_names_are_searched.Goals as goal

pub returns : goal.returns
returns c = directories_of_names_are_searched
