use Rattle.law_walks.proofs.HandedLemmas.{found_is_handed_over}
use Rattle.law_walks.proofs.handed.found_is_handed_over.Goals as goal

pub returns : goal.returns
returns c = found_is_handed_over
