use Rattle.law_walks.proofs.StandingLemmas.{standing_places_are_called}
use Rattle.law_walks.proofs.translation.standing_places_are_called.Goals as goal

pub returns : goal.returns
returns c = standing_places_are_called
