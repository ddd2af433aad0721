use Rattle.kr_model.proofs.LineLemmas.{only_enders}
use Rattle.kr_model.proofs.laws.only_enders_end.Goals as goal

pub returns : goal.returns
returns c = only_enders
