use Rattle.kr_model.proofs.LineLemmas.{answers_end_nobody}
use Rattle.kr_model.proofs.laws.answers_end_nobody.Goals as goal

pub returns : goal.returns
returns c = answers_end_nobody
