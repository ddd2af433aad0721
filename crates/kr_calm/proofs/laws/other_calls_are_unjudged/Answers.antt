use Rattle.kr_calm.proofs.UnjudgedLemmas.{other_calls_are_unjudged}
use Rattle.kr_calm.proofs.laws.other_calls_are_unjudged.Goals as goal

pub returns : goal.returns
returns c = other_calls_are_unjudged
