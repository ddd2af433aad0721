use Rattle.pr_run.proofs.CaseLemmas.{agree-equal}
use Rattle.pr_run.proofs.laws.outcomes_are_told_apart.Goals as goal

pub returns : goal.returns
returns c = agree-equal
