use Rattle.law_beside.proofs.OpenLemmas.{others_stay_open}
use Rattle.law_beside.proofs.opened.others_stay_open.Goals as goal

pub returns : goal.returns
returns c = others_stay_open
