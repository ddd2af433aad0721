use Rattle.law_starts.proofs.FirstLemmas.{first-states-match}
use Rattle.law_starts.proofs.beginning.first_states_match.Goals as goal

pub returns : goal.returns
returns c = first-states-match
