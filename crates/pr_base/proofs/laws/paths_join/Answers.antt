use Rattle.pr_base.proofs.PathLemmas.{paths_join}
use Rattle.pr_base.proofs.laws.paths_join.Goals as goal

pub returns : goal.returns
returns c = paths_join
