use Rattle.kr_steps.proofs.WaitLemmas.{waits_seen}
use Rattle.kr_steps.proofs.waits.waits_are_seen.Goals as goal

pub returns : goal.returns
returns c = waits_seen
