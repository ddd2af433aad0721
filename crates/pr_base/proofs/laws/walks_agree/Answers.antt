use Rattle.pr_base.proofs.SameWalkLemmas.{walks_agree}
use Rattle.pr_base.proofs.laws.walks_agree.Goals as goal

pub returns : goal.returns
returns g c = walks_agree _ _
