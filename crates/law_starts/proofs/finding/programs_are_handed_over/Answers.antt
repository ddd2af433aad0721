use Rattle.law_starts.proofs.PlanLemmas.{programs-are-handed-over}
use Rattle.law_starts.proofs.finding.programs_are_handed_over.Goals as goal

pub returns : goal.returns
returns c = programs-are-handed-over
