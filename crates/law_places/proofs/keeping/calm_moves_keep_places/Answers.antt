use Rattle.law_places.proofs.KeepLemmas.{calm_moves_keep_places}
use Rattle.law_places.proofs.keeping.calm_moves_keep_places.Goals as goal

pub returns : goal.returns
returns c = calm_moves_keep_places
