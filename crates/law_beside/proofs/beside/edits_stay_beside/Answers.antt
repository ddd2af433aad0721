use Rattle.law_beside.proofs.BetweenLemmas.{edits_stay_beside}
use Rattle.law_beside.proofs.beside.edits_stay_beside.Goals as goal

pub returns : goal.returns
returns c = edits_stay_beside
