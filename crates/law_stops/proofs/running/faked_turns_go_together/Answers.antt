use Rattle.law_stops.proofs.RunLemmas.{faked_turns_go_together}
use Rattle.law_stops.proofs.running.faked_turns_go_together.Goals as goal

pub returns : goal.returns
returns c = faked_turns_go_together
