use Rattle.law_beside.proofs.NodeLemmas.{nodes_stay}
use Rattle.law_beside.proofs.opened.nodes_stay.Goals as goal

pub returns : goal.returns
returns c = nodes_stay
