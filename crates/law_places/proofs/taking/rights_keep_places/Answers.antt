use Rattle.law_places.proofs.RightLemmas.{rights_keep_places}
use Rattle.law_places.proofs.taking.rights_keep_places.Goals as goal

pub returns : goal.returns
returns c = rights_keep_places
