use Rattle.kr_model.proofs.LineLemmas.{ends_as_told}
use Rattle.kr_model.proofs.laws.ends_are_told.Goals as goal

pub returns : goal.returns
returns c = ends_as_told
