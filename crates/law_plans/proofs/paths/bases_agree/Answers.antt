use Rattle.law_plans.proofs.BaseLemmas.{bases_agree}
use Rattle.law_plans.proofs.paths.bases_agree.Goals as goal

pub returns : goal.returns
returns c = bases_agree
