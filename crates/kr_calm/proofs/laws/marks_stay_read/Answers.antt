use Rattle.kr_calm.proofs.ChangeLemmas.{marks_stay_read}
use Rattle.kr_calm.proofs.laws.marks_stay_read.Goals as goal

pub returns : goal.returns
returns g c = λ action m e. marks_stay_read action m e
