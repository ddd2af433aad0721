use Rattle.kr_loose.proofs.PartLemmas.{quiet-is-of-parts}
use Rattle.pr_run.proofs.laws.parts_are_quiet.Goals as goal

pub returns : goal.returns
returns g c = quiet-is-of-parts _ _
