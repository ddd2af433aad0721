use Rattle.law_steady.proofs.CallLemmas.{calls_leave_shape}
use Rattle.law_steady.proofs.laws.calls_leave_shape.Goals as goal

pub returns : goal.returns
returns c = calls_leave_shape
