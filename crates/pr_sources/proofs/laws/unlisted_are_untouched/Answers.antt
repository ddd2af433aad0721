use Rattle.pr_sources.proofs.TellingLemmas.{unlisted_are_untouched}
use Rattle.pr_sources.proofs.laws.unlisted_are_untouched.Goals as goal

pub returns : goal.returns
returns g c = unlisted_are_untouched g.row.S.Denot
