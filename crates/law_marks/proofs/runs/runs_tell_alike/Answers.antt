use Rattle.law_marks.proofs.RunLemmas.{runs_tell_alike}
use Rattle.law_marks.proofs.runs.runs_tell_alike.Goals as goal

pub returns : goal.returns
returns g c = runs_tell_alike _
