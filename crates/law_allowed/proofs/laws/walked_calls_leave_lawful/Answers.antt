use Rattle.law_allowed.proofs.TargetLemmas.{walked-calls-leave-lawful}
use Rattle.law_allowed.proofs.laws.walked_calls_leave_lawful.Goals as goal

pub returns : goal.returns
returns c = walked-calls-leave-lawful
