use Rattle.law_edits.proofs.ExitLemmas.{exits_behind_swaps}
use Rattle.law_edits.proofs.stops.exits_behind_swaps.Goals as goal

pub returns : goal.returns
returns c = exits_behind_swaps
