use Rattle.law_walks.proofs.StandingLemmas.{tagged_places_stand}
use Rattle.law_walks.proofs.translation.tagged_places_stand.Goals as goal

pub returns : goal.returns
returns c = tagged_places_stand
