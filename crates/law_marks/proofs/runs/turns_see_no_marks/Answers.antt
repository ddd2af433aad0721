use Rattle.law_marks.proofs.TurnLemmas.{turns_see_no_marks}
use Rattle.law_marks.proofs.runs.turns_see_no_marks.Goals as goal

pub returns : goal.returns
returns g c = turns_see_no_marks _
