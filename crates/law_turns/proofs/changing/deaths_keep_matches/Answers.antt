use Rattle.law_turns.proofs.DeathLemmas.{deaths_keep_matches}
use Rattle.law_turns.proofs.changing.deaths_keep_matches.Goals as goal

pub returns : goal.returns
returns c = deaths_keep_matches
