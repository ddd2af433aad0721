use Rattle.law_edits.proofs.OperationLemmas.{operations_are_same}
use Rattle.law_edits.proofs.laws.operations_are_same.Goals as goal

pub returns : goal.returns
returns c = operations_are_same
