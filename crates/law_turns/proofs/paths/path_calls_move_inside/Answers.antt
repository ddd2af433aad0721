use Rattle.law_turns.proofs.MoveLemmas.{path_calls_move_inside}
use Rattle.law_turns.proofs.paths.path_calls_move_inside.Goals as goal

pub returns : goal.returns
returns c = path_calls_move_inside
