use Rattle.law_allowed.proofs.SourceLemmas.{settled-are-named}
use Rattle.law_allowed.proofs.laws.settled_sources_are_named.Goals as goal

pub returns : goal.returns
returns g = settled-are-named
