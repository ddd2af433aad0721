use Rattle.law_allowed.proofs.TargetLemmas.{calls-walk-to-targets}
use Rattle.law_allowed.proofs.laws.calls_walk_to_targets.Goals as goal

pub returns : goal.returns
returns c = calls-walk-to-targets
