use Rattle.law_marks.proofs.ChangeLemmas.{changes_see_no_marks}
use Rattle.law_marks.proofs.memories.changes_see_no_marks.Goals as goal

pub returns : goal.returns
returns g c = changes_see_no_marks _
