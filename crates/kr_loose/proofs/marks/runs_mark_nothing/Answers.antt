use Rattle.kr_loose.proofs.MarkTurnLemmas.{runs-mark-nothing}
use Rattle.kr_loose.proofs.marks.runs_mark_nothing.Goals as goal

pub returns : goal.returns
returns g c = runs-mark-nothing _
