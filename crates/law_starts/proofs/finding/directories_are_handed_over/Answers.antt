use Rattle.law_starts.proofs.PlanLemmas.{directories-are-handed-over}
use Rattle.law_starts.proofs.finding.directories_are_handed_over.Goals as goal

pub returns : goal.returns
returns c = directories-are-handed-over
