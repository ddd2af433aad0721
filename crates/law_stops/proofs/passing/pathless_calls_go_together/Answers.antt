use Rattle.law_stops.proofs.CallLemmas.{pathless_calls_go_together}
use Rattle.law_stops.proofs.passing.pathless_calls_go_together.Goals as goal

pub returns : goal.returns
returns g c = pathless_calls_go_together _
