use Rattle.law_turns.proofs.NoteLemmas.{path_calls_are_noted}
use Rattle.law_turns.proofs.paths.path_calls_are_noted.Goals as goal

pub returns : goal.returns
returns c = path_calls_are_noted
