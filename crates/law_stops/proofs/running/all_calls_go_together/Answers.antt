use Rattle.law_stops.proofs.WholeLemmas.{all_calls_go_together}
use Rattle.law_stops.proofs.running.all_calls_go_together.Goals as goal

pub returns : goal.returns
returns c = all_calls_go_together
