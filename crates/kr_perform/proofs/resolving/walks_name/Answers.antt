use Rattle.kr_perform.proofs.NamingLemmas.{walks_name}
use Rattle.kr_perform.proofs.resolving.walks_name.Goals as goal

pub returns : goal.returns
returns c = walks_name
