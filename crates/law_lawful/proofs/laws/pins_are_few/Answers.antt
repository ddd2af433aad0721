use Rattle.law_lawful.proofs.HoldingLemmas.{pins-few}
use Rattle.law_lawful.proofs.laws.pins_are_few.Goals as goal

pub returns : goal.returns
returns c = pins-few
