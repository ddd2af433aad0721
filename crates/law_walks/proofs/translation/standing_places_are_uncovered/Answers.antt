use Rattle.law_walks.proofs.StandingLemmas.{standing_places_are_uncovered}
use Rattle.law_walks.proofs.translation.standing_places_are_uncovered.Goals as goal

pub returns : goal.returns
returns c = standing_places_are_uncovered
