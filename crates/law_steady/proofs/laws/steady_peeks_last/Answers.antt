use Rattle.law_steady.proofs.SteadyLemmas.{steady_peeks_last}
use Rattle.law_steady.proofs.laws.steady_peeks_last.Goals as goal

pub returns : goal.returns
returns g c = steady_peeks_last _ _ _ _
