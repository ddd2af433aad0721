use Rattle.law_lawful.proofs.HoldingLemmas.{used_is_held}
use Rattle.law_lawful.proofs.laws.used_is_held.Goals as goal

pub returns : goal.returns
returns g c = used_is_held _ _
