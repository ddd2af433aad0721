use Rattle.law_entries.proofs.PlanLemmas.{plans-last}
use Rattle.law_entries.proofs.laws.plans_last.Goals as goal

pub returns : goal.returns
returns c = plans-last
