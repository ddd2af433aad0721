use Rattle.law_turns.proofs.CalledLemmas.{refused_calls_last}
use Rattle.law_turns.proofs.operating.refused_calls_last.Goals as goal

pub returns : goal.returns
returns c = refused_calls_last
