use Rattle.law_turns.proofs.CalmLemmas.{path_calls_are_calm}
use Rattle.law_turns.proofs.paths.path_calls_are_calm.Goals as goal

pub returns : goal.returns
returns c = path_calls_are_calm
