use Rattle.pr_base.proofs.AlikeLemmas.{walks_end_alike}
use Rattle.pr_base.proofs.laws.walks_end_alike.Goals as goal

pub returns : goal.returns
returns g c = walks_end_alike g.L.LookTwice.likeness
