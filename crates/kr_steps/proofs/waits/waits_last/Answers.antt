use Rattle.kr_steps.proofs.WaitLemmas.{waits_last}
use Rattle.kr_steps.proofs.waits.waits_last.Goals as goal

pub returns : goal.returns
returns c = waits_last
