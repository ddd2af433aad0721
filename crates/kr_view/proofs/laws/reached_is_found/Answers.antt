use Rattle.kr_view.proofs.ReachedLemmas.{reached_is_found}
use Rattle.kr_view.proofs.laws.reached_is_found.Goals as goal

pub returns : goal.returns
returns c = reached_is_found
