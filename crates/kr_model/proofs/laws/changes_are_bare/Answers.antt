use Rattle.kr_model.proofs.laws.changes_are_bare.Goals as goal
use Rattle.kr_model.proofs.BareLemmas.{change-bare}

pub returns : goal.returns
returns g c = λ pins mounts pid c' s before after. change-bare _ pins mounts pid c' s before after
