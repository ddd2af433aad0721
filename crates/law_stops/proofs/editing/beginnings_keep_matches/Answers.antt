use Rattle.law_stops.proofs.EditLemmas.{beginnings_keep_matches}
use Rattle.law_stops.proofs.editing.beginnings_keep_matches.Goals as goal

pub returns : goal.returns
returns c = beginnings_keep_matches
