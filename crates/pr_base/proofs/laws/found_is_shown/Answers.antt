use Rattle.pr_base.proofs.EndLemmas.{found_is_shown}
use Rattle.pr_base.proofs.laws.found_is_shown.Goals as goal

pub returns : goal.returns
returns g c = found_is_shown _ _
