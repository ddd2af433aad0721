use Rattle.law_kept.proofs.ImageApartLemmas.{changes_stand_apart}
use Rattle.law_kept.proofs.images.changes_stand_apart.Goals as goal

pub returns : goal.returns
returns g c = changes_stand_apart _
