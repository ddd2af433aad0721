use Rattle.law_stops.proofs.TogetherLemmas.{traced_turns_go_together}
use Rattle.law_stops.proofs.together.traced_turns_go_together.Goals as goal

pub returns : goal.returns
returns g c = traced_turns_go_together _
