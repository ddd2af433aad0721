use Rattle.law_beside.proofs.BetweenLemmas.{others_keep_images}
use Rattle.law_beside.proofs.beside.others_keep_images.Goals as goal

pub returns : goal.returns
returns c = others_keep_images
