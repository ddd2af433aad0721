use Rattle.law_walks.proofs.NamedLemmas.{lasts_are_handed_over}
use Rattle.law_walks.proofs.handed.lasts_are_handed_over.Goals as goal

pub returns : goal.returns
returns c = lasts_are_handed_over
