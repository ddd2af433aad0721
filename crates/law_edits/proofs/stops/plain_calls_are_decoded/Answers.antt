use Rattle.law_edits.proofs.AnsweredLemmas.{plain_calls_are_decoded}
use Rattle.law_edits.proofs.stops.plain_calls_are_decoded.Goals as goal

pub returns : goal.returns
returns c = plain_calls_are_decoded
