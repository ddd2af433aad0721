use Rattle.law_turns.proofs.KeepLemmas.{changes_keep_matches}
use Rattle.law_turns.proofs.changing.changes_keep_matches.Goals as goal

pub returns : goal.returns
returns c = changes_keep_matches
