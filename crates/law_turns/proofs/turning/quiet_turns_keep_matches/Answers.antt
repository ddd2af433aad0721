use Rattle.law_turns.proofs.QuietLemmas.{quiet_turns_keep_matches}
use Rattle.law_turns.proofs.turning.quiet_turns_keep_matches.Goals as goal

pub returns : goal.returns
returns g c = quiet_turns_keep_matches _ _
