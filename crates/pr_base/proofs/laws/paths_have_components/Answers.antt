use Rattle.pr_base.proofs.PathLemmas.{paths_have_components}
use Rattle.pr_base.proofs.laws.paths_have_components.Goals as goal

pub returns : goal.returns
returns c = paths_have_components
