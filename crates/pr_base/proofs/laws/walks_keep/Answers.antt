use Rattle.pr_base.proofs.KeptWalkLemmas.{walks_keep}
use Rattle.pr_base.proofs.laws.walks_keep.Goals as goal

pub returns : goal.returns
returns g c = walks_keep g.L.KeptWhere.good g.L.KeptWhere.fine g.L.KeptWhere.holds
