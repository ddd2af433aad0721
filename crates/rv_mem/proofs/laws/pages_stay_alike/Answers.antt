use Rattle.rv_mem.proofs.AlikeLemmas.{stay_alike}
use Rattle.rv_mem.proofs.laws.pages_stay_alike.Goals as goal

pub returns : goal.returns
returns c = λ m w same. stay_alike m w same
