use Rattle.law_edits.proofs.MarkLemmas.{shelves_are_marked}
use Rattle.law_edits.proofs.laws.shelves_are_marked.Goals as goal

pub returns : goal.returns
returns c = shelves_are_marked
