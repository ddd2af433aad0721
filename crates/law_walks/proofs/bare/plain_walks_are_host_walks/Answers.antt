use Rattle.law_walks.proofs.OneMountLemmas.{plain_walks_are_host_walks}
use Rattle.law_walks.proofs.bare.plain_walks_are_host_walks.Goals as goal

pub returns : goal.returns
returns g c = plain_walks_are_host_walks _
