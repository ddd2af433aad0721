use Rattle.kr_loose.proofs.MarkTurnLemmas.{turns-mark-nothing}
use Rattle.kr_loose.proofs.marks.turns_mark_nothing.Goals as goal

pub returns : goal.returns
returns g c = turns-mark-nothing _
