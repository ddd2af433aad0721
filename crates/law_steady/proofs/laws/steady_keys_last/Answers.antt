use Rattle.law_steady.proofs.TextLemmas.{steady_keys_last}
use Rattle.law_steady.proofs.laws.steady_keys_last.Goals as goal

pub returns : goal.returns
returns g c = steady_keys_last _ _ _ _
