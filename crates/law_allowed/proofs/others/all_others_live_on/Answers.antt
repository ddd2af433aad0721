use Rattle.law_allowed.proofs.OthersLemmas.{all_others_live}
use Rattle.law_allowed.proofs.others.all_others_live_on.Goals as goal

pub returns : goal.returns
returns g c = all_others_live _ _
