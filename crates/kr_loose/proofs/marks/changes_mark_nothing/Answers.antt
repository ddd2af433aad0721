use Rattle.kr_loose.proofs.LivingLemmas.{changes-mark-nothing}
use Rattle.kr_loose.proofs.marks.changes_mark_nothing.Goals as goal

pub returns : goal.returns
returns g c = changes-mark-nothing _
