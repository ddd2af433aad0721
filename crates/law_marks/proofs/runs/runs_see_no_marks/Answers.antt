use Rattle.law_marks.proofs.RunLemmas.{runs_see_no_marks}
use Rattle.law_marks.proofs.runs.runs_see_no_marks.Goals as goal

pub returns : goal.returns
returns g c = runs_see_no_marks _
