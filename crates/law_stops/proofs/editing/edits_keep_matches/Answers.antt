use Rattle.law_stops.proofs.EditLemmas.{edits_keep_matches}
use Rattle.law_stops.proofs.editing.edits_keep_matches.Goals as goal

pub returns : goal.returns
returns c = edits_keep_matches
