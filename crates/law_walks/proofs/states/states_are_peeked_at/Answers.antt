use Rattle.law_walks.proofs.InUseLemmas.{peeked_at}
use Rattle.law_walks.proofs.states.states_are_peeked_at.Goals as goal

pub returns : goal.returns
returns g c = peeked_at
