use Rattle.law_starts.proofs.StartLemmas.{starts-go-together}
use Rattle.law_starts.proofs.beginning.starts_go_together.Goals as goal

pub returns : goal.returns
returns c = starts-go-together
