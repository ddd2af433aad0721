use Rattle.law_walks.proofs.InUseLemmas.{places_in_use_are_told}
use Rattle.law_walks.proofs.states.places_in_use_are_told.Goals as goal

pub returns : goal.returns
returns g c = places_in_use_are_told _
