use Rattle.law_stops.proofs.AnsweredLemmas.{cancelled_calls_go_together}
use Rattle.law_stops.proofs.passing.cancelled_calls_go_together.Goals as goal

pub returns : goal.returns
returns g c = cancelled_calls_go_together _
