use Rattle.law_marks.proofs.ToldLemmas.{calls_see_no_marks}
use Rattle.law_marks.proofs.memories.calls_see_no_marks.Goals as goal

pub returns : goal.returns
returns c = calls_see_no_marks
