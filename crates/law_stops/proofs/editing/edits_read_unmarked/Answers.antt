use Rattle.law_stops.proofs.ReadLemmas.{edits_read_unmarked}
use Rattle.law_stops.proofs.editing.edits_read_unmarked.Goals as goal

pub returns : goal.returns
returns c = edits_read_unmarked
