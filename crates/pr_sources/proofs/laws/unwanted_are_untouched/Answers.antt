use Rattle.pr_sources.proofs.TellingLemmas.{unwanted_are_untouched}
use Rattle.pr_sources.proofs.laws.unwanted_are_untouched.Goals as goal

pub returns : goal.returns
returns g c = unwanted_are_untouched g.row.S.Denot
