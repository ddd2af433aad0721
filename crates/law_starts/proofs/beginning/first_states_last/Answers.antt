use Rattle.law_starts.proofs.LawfulLemmas.{first-states-last}
use Rattle.law_starts.proofs.beginning.first_states_last.Goals as goal

pub returns : goal.returns
returns c = first-states-last
