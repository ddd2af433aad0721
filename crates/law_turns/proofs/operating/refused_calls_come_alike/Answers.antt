use Rattle.law_turns.proofs.CallLemmas.{refused_calls_come_alike}
use Rattle.law_turns.proofs.operating.refused_calls_come_alike.Goals as goal

pub returns : goal.returns
returns c = refused_calls_come_alike
