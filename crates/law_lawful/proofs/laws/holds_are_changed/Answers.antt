use Rattle.law_lawful.proofs.HoldingLemmas.{holds_are_changed}
use Rattle.law_lawful.proofs.laws.holds_are_changed.Goals as goal

pub returns : goal.returns
returns c = holds_are_changed
