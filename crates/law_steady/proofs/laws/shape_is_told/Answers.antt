use Rattle.law_steady.proofs.ExactLemmas.{shape_is_told}
use Rattle.law_steady.proofs.laws.shape_is_told.Goals as goal

pub returns : goal.returns
returns g c = shape_is_told _
