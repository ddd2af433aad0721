use Rattle.law_starts.proofs.SourceLemmas.{settled-sources-are-named}
use Rattle.law_starts.proofs.beginning.settled_sources_are_named.Goals as goal

pub returns : goal.returns
returns c = settled-sources-are-named
