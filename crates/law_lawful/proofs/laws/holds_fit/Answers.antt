use Rattle.law_lawful.proofs.HoldingLemmas.{holds_fit}
use Rattle.law_lawful.proofs.laws.holds_fit.Goals as goal

pub returns : goal.returns
returns g c = holds_fit _ _
