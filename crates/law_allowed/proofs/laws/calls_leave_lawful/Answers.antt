use Rattle.law_allowed.proofs.ToldLemmas.{calls-leave-lawful}
use Rattle.law_allowed.proofs.laws.calls_leave_lawful.Goals as goal

pub returns : goal.returns
returns c = calls-leave-lawful
