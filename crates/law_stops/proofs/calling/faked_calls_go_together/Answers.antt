use Rattle.law_stops.proofs.PathlessLemmas.{faked_calls_go_together}
use Rattle.law_stops.proofs.calling.faked_calls_go_together.Goals as goal

pub returns : goal.returns
returns c = faked_calls_go_together
