use Rattle.law_kept.proofs.ImageCallLemmas.{paths_are_told}
use Rattle.law_kept.proofs.images.paths_are_told.Goals as goal

pub returns : goal.returns
returns c = paths_are_told
