use Rattle.law_edits.proofs.NumberLemmas.{paths_have_numbers}
use Rattle.law_edits.proofs.shelves.paths_have_numbers.Goals as goal

pub returns : goal.returns
returns c = paths_have_numbers
