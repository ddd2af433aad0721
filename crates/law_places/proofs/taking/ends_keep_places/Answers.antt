use Rattle.law_places.proofs.EndLemmas.{ends_keep_places}
use Rattle.law_places.proofs.taking.ends_keep_places.Goals as goal

pub returns : goal.returns
returns c = ends_keep_places
