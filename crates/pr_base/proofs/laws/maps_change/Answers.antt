use Rattle.pr_base.proofs.MapLemmas.{maps_change}
use Rattle.pr_base.proofs.laws.maps_change.Goals as goal

pub returns : goal.returns
returns g c = maps_change _
