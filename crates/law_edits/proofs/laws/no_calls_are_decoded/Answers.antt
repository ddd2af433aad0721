use Rattle.law_edits.proofs.NoCallLemmas.{no_calls_are_decoded}
use Rattle.law_edits.proofs.laws.no_calls_are_decoded.Goals as goal

pub returns : goal.returns
returns c = no_calls_are_decoded
