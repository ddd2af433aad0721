use Rattle.law_edits.proofs.ShortSwapLemmas.{swaps_are_short}
use Rattle.law_edits.proofs.short.swaps_are_short.Goals as goal

pub returns : goal.returns
returns c = swaps_are_short
