use Rattle.law_stops.proofs.KernelLemmas.{programs_go_together}
use Rattle.law_stops.proofs.calling.programs_go_together.Goals as goal

pub returns : goal.returns
returns c = programs_go_together
