use Rattle.kr_calm.proofs.OwnerLemmas.{owners_break_none}
use Rattle.kr_calm.proofs.laws.owners_break_none.Goals as goal

pub returns : goal.returns
returns g c = λ mounts pid table request seen s m memory is. owners_break_none mounts pid table request seen s m memory is
