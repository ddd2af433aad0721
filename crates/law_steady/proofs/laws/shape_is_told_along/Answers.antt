use Rattle.law_steady.proofs.AlongLemmas.{shape_is_told_along}
use Rattle.law_steady.proofs.laws.shape_is_told_along.Goals as goal

pub returns : goal.returns
returns g c = shape_is_told_along _
