use Rattle.law_plans.proofs.EditLemmas.{plans_are_short}
use Rattle.law_plans.proofs.short.plans_are_short.Goals as goal

pub returns : goal.returns
returns c = plans_are_short
