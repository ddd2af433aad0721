use Rattle.law_stops.proofs.RunLemmas.{faked_runs_come_alike}
use Rattle.law_stops.proofs.running.faked_runs_come_alike.Goals as goal

pub returns : goal.returns
returns c = faked_runs_come_alike
