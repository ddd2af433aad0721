use Rattle.kr_calm.proofs.AboveLemmas.{steps_are_enough}
use Rattle.kr_calm.proofs.laws.steps_are_enough.Goals as goal

pub returns : goal.returns
returns c = steps_are_enough
