use Rattle.law_programs.proofs.ShowLemmas.{states_are_shown_alike}
use Rattle.law_programs.proofs.executing.states_are_shown_alike.Goals as goal

pub returns : goal.returns
returns c = states_are_shown_alike
