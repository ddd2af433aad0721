use Rattle.law_walks.proofs.CanonLemmas.{answers_tell_targets}
use Rattle.law_walks.proofs.handed.answers_tell_targets.Goals as goal

pub returns : goal.returns
returns c = answers_tell_targets
