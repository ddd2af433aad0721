use Rattle.law_loosely.proofs.StayLemmas.{tracers_stay_beside}
use Rattle.law_loosely.proofs.laws.tracers_stay_beside.Goals as goal

pub returns : goal.returns
returns c = tracers_stay_beside
