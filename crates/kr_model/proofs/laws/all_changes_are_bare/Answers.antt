use Rattle.kr_model.proofs.CallLemmas.{all_bare}
use Rattle.kr_model.proofs.laws.all_changes_are_bare.Goals as goal

pub returns : goal.returns
returns g c = all_bare _
