use Rattle.pr_base.proofs.WalkLemmas.{walks_go_by_components}
use Rattle.pr_base.proofs.laws.walks_go_by_components.Goals as goal

pub returns : goal.returns
returns g c = walks_go_by_components _ _
