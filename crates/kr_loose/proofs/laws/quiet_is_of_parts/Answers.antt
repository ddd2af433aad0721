use Rattle.kr_loose.proofs.PartLemmas.{quiet-is-of-parts}
use Rattle.kr_loose.proofs.laws.quiet_is_of_parts.Goals as goal

pub returns : goal.returns
returns g c = quiet-is-of-parts _ _
