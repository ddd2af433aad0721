use Rattle.kr_seen.proofs.StepLemmas.{choices-are-numbered}
use Rattle.kr_seen.proofs.mounts.choices_are_numbered.Goals as goal

pub returns : goal.returns
returns g c = choices-are-numbered
