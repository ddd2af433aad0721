use Rattle.law_loosely.proofs.MidwayLemmas.{runs_go_by_slots}
use Rattle.law_loosely.proofs.laws.runs_go_by_slots.Goals as goal

pub returns : goal.returns
returns g c = runs_go_by_slots _
