use Rattle.law_turns.proofs.RunLemmas.{decodings_keep_matches}
use Rattle.law_turns.proofs.turning.decodings_keep_matches.Goals as goal

pub returns : goal.returns
returns c = decodings_keep_matches
