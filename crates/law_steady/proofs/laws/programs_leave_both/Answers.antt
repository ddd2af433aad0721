use Rattle.law_steady.proofs.CallLemmas.{programs_leave_both}
use Rattle.law_steady.proofs.laws.programs_leave_both.Goals as goal

pub returns : goal.returns
returns c = programs_leave_both
