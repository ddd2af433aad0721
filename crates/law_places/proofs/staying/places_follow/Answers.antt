use Rattle.law_places.proofs.SpaceLemmas.{places_follow}
use Rattle.law_places.proofs.staying.places_follow.Goals as goal

pub returns : goal.returns
returns c = places_follow
