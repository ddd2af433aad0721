use Rattle.kr_start.proofs.StartLemmas.{sources-held}
use Rattle.kr_start.proofs.laws.sources_are_held.Goals as goal

pub returns : goal.returns
returns g = sources-held
