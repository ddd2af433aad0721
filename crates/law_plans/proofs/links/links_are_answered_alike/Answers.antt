use Rattle.law_plans.proofs.LinkLemmas.{links_are_answered_alike}
use Rattle.law_plans.proofs.links.links_are_answered_alike.Goals as goal

pub returns : goal.returns
returns c = links_are_answered_alike
