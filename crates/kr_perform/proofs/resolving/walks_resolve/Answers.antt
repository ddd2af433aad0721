use Rattle.kr_perform.proofs.ResolveLemmas.{walks_resolve}
use Rattle.kr_perform.proofs.resolving.walks_resolve.Goals as goal

pub returns : goal.returns
returns g c = walks_resolve
