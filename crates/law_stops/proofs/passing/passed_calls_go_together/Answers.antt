use Rattle.law_stops.proofs.SwapLemmas.{passed_calls_go_together}
use Rattle.law_stops.proofs.passing.passed_calls_go_together.Goals as goal

pub returns : goal.returns
returns g c = passed_calls_go_together _
