use Rattle.law_steady.proofs.ToldLemmas.{calls_are_told}
use Rattle.law_steady.proofs.laws.calls_are_told.Goals as goal

pub returns : goal.returns
returns g c = calls_are_told _
