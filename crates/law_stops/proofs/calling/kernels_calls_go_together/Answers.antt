use Rattle.law_stops.proofs.KernelLemmas.{kernels_calls_go_together}
use Rattle.law_stops.proofs.calling.kernels_calls_go_together.Goals as goal

pub returns : goal.returns
returns c = kernels_calls_go_together
