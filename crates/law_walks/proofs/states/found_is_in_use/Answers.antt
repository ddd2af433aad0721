use Rattle.law_walks.proofs.InUseLemmas.{found_is_in_use}
use Rattle.law_walks.proofs.states.found_is_in_use.Goals as goal

pub returns : goal.returns
returns c = found_is_in_use
