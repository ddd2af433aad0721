use Rattle.law_loosely.proofs.FreshLemmas.{starts_are_fresh}
use Rattle.law_loosely.proofs.laws.starts_are_fresh.Goals as goal

pub returns : goal.returns
returns c = starts_are_fresh
