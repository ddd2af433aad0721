use Rattle.law_steady.proofs.ToldLemmas.{ends_leave_both}
use Rattle.law_steady.proofs.laws.ends_leave_both.Goals as goal

pub returns : goal.returns
returns g c = ends_leave_both _
