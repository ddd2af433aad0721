use Rattle.kr_loose.proofs.UnmarkedLemmas.{actions-mark-nothing}
use Rattle.kr_loose.proofs.marks.actions_mark_nothing.Goals as goal

pub returns : goal.returns
returns g c = actions-mark-nothing _
