use Rattle.law_allowed.proofs.OperationLemmas.{operation-is-allowed}
use Rattle.law_allowed.proofs.laws.operation_is_allowed.Goals as goal

pub returns : goal.returns
returns g c = operation-is-allowed _
