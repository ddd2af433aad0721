use Rattle.pr_sources.proofs.TellingLemmas.{sources_that_tell_agree}
use Rattle.pr_sources.proofs.laws.sources_that_tell_agree.Goals as goal

pub returns : goal.returns
returns c = sources_that_tell_agree
