use Rattle.law_walks.proofs.HandedLemmas.{named_texts_are_found}
use Rattle.law_walks.proofs.handed.named_texts_are_found.Goals as goal

pub returns : goal.returns
returns c = named_texts_are_found
