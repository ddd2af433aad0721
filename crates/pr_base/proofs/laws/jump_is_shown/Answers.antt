use Rattle.pr_base.proofs.EndLemmas.{jump_is_shown}
use Rattle.pr_base.proofs.laws.jump_is_shown.Goals as goal

pub returns : goal.returns
returns g c = jump_is_shown _ _
