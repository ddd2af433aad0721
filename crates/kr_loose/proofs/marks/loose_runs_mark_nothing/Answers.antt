use Rattle.kr_loose.proofs.MarkTurnLemmas.{loose-runs-mark-nothing}
use Rattle.kr_loose.proofs.marks.loose_runs_mark_nothing.Goals as goal

pub returns : goal.returns
returns g c = loose-runs-mark-nothing _
