use Rattle.law_allowed.proofs.WalkLemmas.{walks-give-targets}
use Rattle.law_allowed.proofs.laws.walks_give_targets.Goals as goal

pub returns : goal.returns
returns c = walks-give-targets
