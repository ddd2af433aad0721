use Rattle.law_plans.proofs.AllLemmas.{plans_of_one_agree}
use Rattle.law_plans.proofs.plans.plans_of_one_agree.Goals as goal

pub returns : goal.returns
returns c = plans_of_one_agree
