use Rattle.kr_loose.proofs.WaitingLemmas.{waits-leave-all}
use Rattle.kr_loose.proofs.waits.waits_leave_all.Goals as goal

pub returns : goal.returns
returns c = waits-leave-all
