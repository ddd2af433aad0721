use Rattle.law_turns.proofs.RunLemmas.{shelves_keep_matches}
use Rattle.law_turns.proofs.turning.shelves_keep_matches.Goals as goal

pub returns : goal.returns
returns c = shelves_keep_matches
