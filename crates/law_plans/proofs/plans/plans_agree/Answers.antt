use Rattle.law_plans.proofs.WholeLemmas.{plans_agree}
use Rattle.law_plans.proofs.plans.plans_agree.Goals as goal

pub returns : goal.returns
returns c = plans_agree
