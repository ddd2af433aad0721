use Rattle.law_allowed.proofs.ToldLemmas.{targets-are-told}
use Rattle.law_allowed.proofs.laws.targets_are_told.Goals as goal

pub returns : goal.returns
returns c = targets-are-told
