use Rattle.law_plans.proofs.OneLemmas.{swaps_agree}
use Rattle.law_plans.proofs.paths.swaps_agree.Goals as goal

pub returns : goal.returns
returns c = swaps_agree
