use Rattle.law_allowed.proofs.OthersLemmas.{others_live}
use Rattle.law_allowed.proofs.others.others_live_on.Goals as goal

pub returns : goal.returns
returns g c = others_live _ _
