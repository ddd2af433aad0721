use Rattle.kr_model.proofs.LineLemmas.{waits_as_told}
use Rattle.kr_model.proofs.laws.waits_are_told.Goals as goal

pub returns : goal.returns
returns c = waits_as_told
