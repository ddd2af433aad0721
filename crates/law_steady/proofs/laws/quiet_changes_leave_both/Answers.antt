use Rattle.law_steady.proofs.ToldLemmas.{quiet_changes_leave_both}
use Rattle.law_steady.proofs.laws.quiet_changes_leave_both.Goals as goal

pub returns : goal.returns
returns g c = quiet_changes_leave_both _
