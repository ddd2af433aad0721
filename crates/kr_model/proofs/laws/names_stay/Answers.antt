use Rattle.kr_model.proofs.NameLemmas.{names_stay}
use Rattle.kr_model.proofs.laws.names_stay.Goals as goal

pub returns : goal.returns
returns g c = λ computing mounts pid change s h i l. names_stay computing mounts pid change s h i l
