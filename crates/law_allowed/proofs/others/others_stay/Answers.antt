use Rattle.law_allowed.proofs.OthersLemmas.{others_same}
use Rattle.law_allowed.proofs.others.others_stay.Goals as goal

pub returns : goal.returns
returns g c = others_same _ _
