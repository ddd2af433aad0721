use Rattle.law_edits.proofs.LinkLemmas.{errors_are_told_alike}
use Rattle.law_edits.proofs.answers.errors_are_told_alike.Goals as goal

pub returns : goal.returns
returns c = errors_are_told_alike
