use Rattle.law_stops.proofs.PassLemmas.{exits_pass}
use Rattle.law_stops.proofs.passing.exits_pass.Goals as goal

pub returns : goal.returns
returns c = exits_pass
