use Rattle.law_turns.proofs.OperateLemmas.{calls_keep_matches}
use Rattle.law_turns.proofs.operating.calls_keep_matches.Goals as goal

pub returns : goal.returns
returns c = calls_keep_matches
