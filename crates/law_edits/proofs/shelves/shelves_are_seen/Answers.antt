use Rattle.law_edits.proofs.CallShelfLemmas.{shelves_are_seen}
use Rattle.law_edits.proofs.shelves.shelves_are_seen.Goals as goal

pub returns : goal.returns
returns c = shelves_are_seen
