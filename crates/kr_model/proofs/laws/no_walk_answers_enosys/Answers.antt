use Rattle.kr_model.proofs.BuiltLemmas.{walks-built}
use Rattle.kr_model.proofs.laws.no_walk_answers_enosys.Goals as goal

pub returns : goal.returns
returns g c = walks-built _
