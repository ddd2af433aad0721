use Rattle.law_stops.proofs.WholeLemmas.{watchers_start_alike}
use Rattle.law_stops.proofs.running.watchers_start_alike.Goals as goal

pub returns : goal.returns
returns c = watchers_start_alike
