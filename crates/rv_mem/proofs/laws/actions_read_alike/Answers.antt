use Rattle.rv_mem.proofs.ActionLemmas.{reads_alike}
use Rattle.rv_mem.proofs.laws.actions_read_alike.Goals as goal

pub returns : goal.returns
returns g c = λ action. reads_alike action
