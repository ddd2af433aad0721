use Rattle.kr_loose.proofs.MarkTurnLemmas.{steps-mark-nothing}
use Rattle.kr_loose.proofs.marks.steps_mark_nothing.Goals as goal

pub returns : goal.returns
returns g c = steps-mark-nothing _
