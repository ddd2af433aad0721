use Rattle.law_walks.proofs.StateLemmas.{states_are_matched}
use Rattle.law_walks.proofs.states.states_are_matched.Goals as goal

pub returns : goal.returns
returns g c = states_are_matched _
