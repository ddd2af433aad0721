use Rattle.law_stops.proofs.NoteLemmas.{notes_follow}
use Rattle.law_stops.proofs.passing.notes_follow.Goals as goal

pub returns : goal.returns
returns c = notes_follow
