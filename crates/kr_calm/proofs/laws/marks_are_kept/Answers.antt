use Rattle.kr_calm.proofs.MarkLemmas.{marks_are_kept}
use Rattle.kr_calm.proofs.laws.marks_are_kept.Goals as goal

pub returns : goal.returns
returns g c = marks_are_kept
