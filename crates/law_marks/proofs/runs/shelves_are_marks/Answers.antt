use Rattle.law_marks.proofs.StateLemmas.{shelves_are_marks}
use Rattle.law_marks.proofs.runs.shelves_are_marks.Goals as goal

pub returns : goal.returns
returns c = shelves_are_marks
