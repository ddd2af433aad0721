use Rattle.law_stops.proofs.TogetherLemmas.{traced_runs_come_alike}
use Rattle.law_stops.proofs.together.traced_runs_come_alike.Goals as goal

pub returns : goal.returns
returns g c = traced_runs_come_alike _
