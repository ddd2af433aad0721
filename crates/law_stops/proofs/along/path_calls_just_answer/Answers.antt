use Rattle.law_stops.proofs.AlongLemmas.{path_calls_just_answer}
use Rattle.law_stops.proofs.along.path_calls_just_answer.Goals as goal

pub returns : goal.returns
returns c = path_calls_just_answer
