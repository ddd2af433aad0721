use Rattle.law_stops.proofs.EmulateLemmas.{answered_calls_go_together}
use Rattle.law_stops.proofs.passing.answered_calls_go_together.Goals as goal

pub returns : goal.returns
returns g c = answered_calls_go_together _
