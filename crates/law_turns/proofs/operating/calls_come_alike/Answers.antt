use Rattle.law_turns.proofs.CallLemmas.{calls_come_alike}
use Rattle.law_turns.proofs.operating.calls_come_alike.Goals as goal

pub returns : goal.returns
returns c = calls_come_alike
