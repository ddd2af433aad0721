use Rattle.law_marks.proofs.CallLemmas.{plain_calls_see_no_marks}
use Rattle.law_marks.proofs.runs.plain_calls_see_no_marks.Goals as goal

pub returns : goal.returns
returns c = plain_calls_see_no_marks
