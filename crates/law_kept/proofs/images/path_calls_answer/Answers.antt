use Rattle.law_kept.proofs.ImageCallLemmas.{path_calls_answer}
use Rattle.law_kept.proofs.images.path_calls_answer.Goals as goal

pub returns : goal.returns
returns c = path_calls_answer
