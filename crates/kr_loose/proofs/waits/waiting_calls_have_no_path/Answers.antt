use Rattle.kr_loose.proofs.WaitingLemmas.{waiting-calls-have-no-path}
use Rattle.kr_loose.proofs.waits.waiting_calls_have_no_path.Goals as goal

pub returns : goal.returns
returns c = waiting-calls-have-no-path
