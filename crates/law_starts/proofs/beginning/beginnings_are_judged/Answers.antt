use Rattle.law_starts.proofs.StartLemmas.{beginnings-are-judged}
use Rattle.law_starts.proofs.beginning.beginnings_are_judged.Goals as goal

pub returns : goal.returns
returns c = beginnings-are-judged
