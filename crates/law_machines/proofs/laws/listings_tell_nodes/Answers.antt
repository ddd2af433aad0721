use Rattle.law_machines.proofs.ReportLemmas.{listings_tell_nodes}
use Rattle.law_machines.proofs.laws.listings_tell_nodes.Goals as goal

pub returns : goal.returns
returns c = listings_tell_nodes
