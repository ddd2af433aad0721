use Rattle.law_stops.proofs.IdentityLemmas.{identity_calls_go_together}
use Rattle.law_stops.proofs.calling.identity_calls_go_together.Goals as goal

pub returns : goal.returns
returns c = identity_calls_go_together
