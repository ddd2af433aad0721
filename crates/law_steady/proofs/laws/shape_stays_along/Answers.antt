use Rattle.law_steady.proofs.LeavingLemmas.{shape_stays_along}
use Rattle.law_steady.proofs.laws.shape_stays_along.Goals as goal

pub returns : goal.returns
returns g c = shape_stays_along _
