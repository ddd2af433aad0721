use Rattle.law_edits.proofs.LinkLemmas.{link_texts_are_told_alike}
use Rattle.law_edits.proofs.answers.link_texts_are_told_alike.Goals as goal

pub returns : goal.returns
returns c = link_texts_are_told_alike
