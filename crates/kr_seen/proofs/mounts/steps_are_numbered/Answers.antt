use Rattle.kr_seen.proofs.StepLemmas.{steps-are-numbered}
use Rattle.kr_seen.proofs.mounts.steps_are_numbered.Goals as goal

pub returns : goal.returns
returns g c = steps-are-numbered
