use Rattle.pt_first.proofs.StartLemmas.{firsts_can_start}
use Rattle.pt_first.proofs.laws.firsts_can_start.Goals as goal

pub returns : goal.returns
returns c = firsts_can_start
