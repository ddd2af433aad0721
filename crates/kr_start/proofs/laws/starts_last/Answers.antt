use Rattle.kr_start.proofs.LastLemmas.{starts-last}
use Rattle.kr_start.proofs.laws.starts_last.Goals as goal

pub returns : goal.returns
returns g c = starts-last _
