use Rattle.law_loose.proofs.UnwatchedLemmas.{unwatched-steps-lag}
use Rattle.law_loose.proofs.laws.unwatched_steps_lag.Goals as goal

pub returns : goal.returns
returns g c = unwatched-steps-lag _
