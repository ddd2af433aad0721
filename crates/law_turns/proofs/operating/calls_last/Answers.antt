use Rattle.law_turns.proofs.CalledLemmas.{calls_last}
use Rattle.law_turns.proofs.operating.calls_last.Goals as goal

pub returns : goal.returns
returns c = calls_last
