use Rattle.law_turns.proofs.RunLemmas.{instructions_keep_matches}
use Rattle.law_turns.proofs.turning.instructions_keep_matches.Goals as goal

pub returns : goal.returns
returns c = instructions_keep_matches
