use Rattle.law_machines.proofs.NobodyLemmas.{nobody_watches}
use Rattle.law_machines.proofs.laws.nobody_watches.Goals as goal

pub returns : goal.returns
returns c = nobody_watches
