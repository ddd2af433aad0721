use Rattle.law_steady.proofs.SteadyLemmas.{steady_walks_last}
use Rattle.law_steady.proofs.laws.steady_walks_last.Goals as goal

pub returns : goal.returns
returns g c = steady_walks_last _ _ _ _
