use Rattle.pr_base.proofs.TextLemmas.{texts_are_told_apart}
use Rattle.pr_base.proofs.laws.texts_are_told_apart.Goals as goal

pub returns : goal.returns
returns c = texts_are_told_apart
