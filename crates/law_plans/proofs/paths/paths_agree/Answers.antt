use Rattle.law_plans.proofs.PathLemmas.{paths_agree}
use Rattle.law_plans.proofs.paths.paths_agree.Goals as goal

pub returns : goal.returns
returns c = paths_agree
