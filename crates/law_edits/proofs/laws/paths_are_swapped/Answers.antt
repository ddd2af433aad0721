use Rattle.law_edits.proofs.OperationLemmas.{paths_are_swapped}
use Rattle.law_edits.proofs.laws.paths_are_swapped.Goals as goal

pub returns : goal.returns
returns c = paths_are_swapped
