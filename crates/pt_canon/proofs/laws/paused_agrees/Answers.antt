use Rattle.pt_canon.proofs.RememberLemmas.{paused_agrees}
use Rattle.pt_canon.proofs.laws.paused_agrees.Goals as goal

pub returns : goal.returns
returns c = paused_agrees
