use Rattle.kr_model.proofs.laws.known_is_bare.Goals as goal
use Rattle.kr_model.proofs.KnownLemmas.{known-bare}

pub returns : goal.returns
returns g c = λ pins pid s. known-bare _ pins pid s
