use Rattle.kr_calm.proofs.ProspectLemmas.{foreseen_calls_make_it}
use Rattle.kr_calm.proofs.laws.foreseen_calls_make_it.Goals as goal

pub returns : goal.returns
returns c = foreseen_calls_make_it
