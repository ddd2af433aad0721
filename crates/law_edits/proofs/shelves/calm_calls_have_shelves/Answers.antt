use Rattle.law_edits.proofs.CallShelfLemmas.{calm_calls_have_shelves}
use Rattle.law_edits.proofs.shelves.calm_calls_have_shelves.Goals as goal

pub returns : goal.returns
returns c = calm_calls_have_shelves
