use Rattle.law_places.proofs.MatchLemmas.{matches_are_matched}
use Rattle.law_places.proofs.matching.matches_are_matched.Goals as goal

pub returns : goal.returns
returns g c = matches_are_matched
