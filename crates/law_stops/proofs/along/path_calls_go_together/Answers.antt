use Rattle.law_stops.proofs.AlongLemmas.{path_calls_go_together}
use Rattle.law_stops.proofs.along.path_calls_go_together.Goals as goal

pub returns : goal.returns
returns c = path_calls_go_together
