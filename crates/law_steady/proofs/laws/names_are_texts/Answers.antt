use Rattle.law_steady.proofs.ExactLemmas.{names_are_texts}
use Rattle.law_steady.proofs.laws.names_are_texts.Goals as goal

pub returns : goal.returns
returns c = names_are_texts
