use Rattle.law_edits.proofs.AnsweredLemmas.{answered_calls_are_none}
use Rattle.law_edits.proofs.stops.answered_calls_are_none.Goals as goal

pub returns : goal.returns
returns c = answered_calls_are_none
