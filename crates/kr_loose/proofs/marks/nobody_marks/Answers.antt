use Rattle.kr_loose.proofs.MarkTurnLemmas.{nobody-marks}
use Rattle.kr_loose.proofs.marks.nobody_marks.Goals as goal

pub returns : goal.returns
returns g c = nobody-marks _
