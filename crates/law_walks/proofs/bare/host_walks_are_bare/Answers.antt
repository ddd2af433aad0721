use Rattle.law_walks.proofs.BareStateLemmas.{host_walks_are_bare}
use Rattle.law_walks.proofs.bare.host_walks_are_bare.Goals as goal

pub returns : goal.returns
returns g c = host_walks_are_bare _ _
