use Rattle.kr_perform.proofs.LawfulLemmas.{performed-last}
use Rattle.kr_perform.proofs.laws.performed_states_last.Goals as goal

pub returns : goal.returns
returns g c = performed-last
