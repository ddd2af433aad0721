use Rattle.law_stops.proofs.KindLemmas.{faked_answers_go_together}
use Rattle.law_stops.proofs.along.faked_answers_go_together.Goals as goal

pub returns : goal.returns
returns c = faked_answers_go_together
