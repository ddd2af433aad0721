use Rattle.law_loosely.proofs.MidwayLemmas.{runs_go_together}
use Rattle.law_loosely.proofs.laws.runs_go_together.Goals as goal

pub returns : goal.returns
returns g c = runs_go_together _ _ _
