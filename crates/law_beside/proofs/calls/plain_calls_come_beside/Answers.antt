use Rattle.law_beside.proofs.CallLemmas.{plain_calls_come_beside}
use Rattle.law_beside.proofs.calls.plain_calls_come_beside.Goals as goal

pub returns : goal.returns
returns c = plain_calls_come_beside
