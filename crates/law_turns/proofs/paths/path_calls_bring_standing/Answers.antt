use Rattle.law_turns.proofs.BringLemmas.{path_calls_bring_standing}
use Rattle.law_turns.proofs.paths.path_calls_bring_standing.Goals as goal

pub returns : goal.returns
returns c = path_calls_bring_standing
