use Rattle.kr_model.proofs.LineLemmas.{refusals}
use Rattle.kr_model.proofs.laws.refusals_change_nothing.Goals as goal

pub returns : goal.returns
returns c = refusals
