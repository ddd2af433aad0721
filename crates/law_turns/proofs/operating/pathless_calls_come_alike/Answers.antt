use Rattle.law_turns.proofs.PathlessLemmas.{pathless_calls_come_alike}
use Rattle.law_turns.proofs.operating.pathless_calls_come_alike.Goals as goal

pub returns : goal.returns
returns c = pathless_calls_come_alike
