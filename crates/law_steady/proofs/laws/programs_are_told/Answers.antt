use Rattle.law_steady.proofs.ToldLemmas.{programs_are_told}
use Rattle.law_steady.proofs.laws.programs_are_told.Goals as goal

pub returns : goal.returns
returns g c = programs_are_told _
