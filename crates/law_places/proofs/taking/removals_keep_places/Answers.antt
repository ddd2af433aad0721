use Rattle.law_places.proofs.RemoveLemmas.{removals_keep_places}
use Rattle.law_places.proofs.taking.removals_keep_places.Goals as goal

pub returns : goal.returns
returns c = removals_keep_places
