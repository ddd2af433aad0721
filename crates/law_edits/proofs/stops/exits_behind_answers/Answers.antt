use Rattle.law_edits.proofs.ExitLemmas.{exits_behind_answers}
use Rattle.law_edits.proofs.stops.exits_behind_answers.Goals as goal

pub returns : goal.returns
returns c = exits_behind_answers
