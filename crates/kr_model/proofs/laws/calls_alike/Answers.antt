use Rattle.kr_model.proofs.CallLemmas.{calls-alike}
use Rattle.kr_model.proofs.laws.calls_alike.Goals as goal

pub returns : goal.returns
returns g c = calls-alike _ _
