use Rattle.law_stops.proofs.PassLemmas.{entries_pass}
use Rattle.law_stops.proofs.passing.entries_pass.Goals as goal

pub returns : goal.returns
returns c = entries_pass
