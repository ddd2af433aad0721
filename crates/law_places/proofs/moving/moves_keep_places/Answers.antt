use Rattle.law_places.proofs.MoveKeepLemmas.{moves_keep_places}
use Rattle.law_places.proofs.moving.moves_keep_places.Goals as goal

pub returns : goal.returns
returns c = moves_keep_places
