use Rattle.law_edits.proofs.FreshLemmas.{images_are_fresh}
use Rattle.law_edits.proofs.fresh.images_are_fresh.Goals as goal

pub returns : goal.returns
returns c = images_are_fresh
