use Rattle.kr_view.proofs.NodeLemmas.{walks_read_nodes}
use Rattle.kr_view.proofs.laws.walks_read_nodes.Goals as goal

pub returns : goal.returns
returns c = walks_read_nodes
