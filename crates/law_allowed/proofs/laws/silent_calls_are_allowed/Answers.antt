use Rattle.law_allowed.proofs.SilentLemmas.{silent-calls}
use Rattle.law_allowed.proofs.laws.silent_calls_are_allowed.Goals as goal

pub returns : goal.returns
returns g c = silent-calls _
