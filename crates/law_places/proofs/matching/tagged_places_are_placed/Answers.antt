use Rattle.law_places.proofs.MatchLemmas.{tagged_places_are_placed}
use Rattle.law_places.proofs.matching.tagged_places_are_placed.Goals as goal

pub returns : goal.returns
returns c = tagged_places_are_placed
