use Rattle.law_turns.proofs.KeepLemmas.{moves_keep_matches}
use Rattle.law_turns.proofs.changing.moves_keep_matches.Goals as goal

pub returns : goal.returns
returns c = moves_keep_matches
