use Rattle.law_programs.proofs.LimitLemmas.{lists_fit}
use Rattle.law_programs.proofs.executing.lists_fit.Goals as goal

pub returns : goal.returns
returns c = lists_fit
