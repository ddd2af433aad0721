use Rattle.kr_loose.proofs.MarkCallLemmas.{plain-calls-mark-nothing}
use Rattle.kr_loose.proofs.marks.plain_calls_mark_nothing.Goals as goal

pub returns : goal.returns
returns c = plain-calls-mark-nothing
