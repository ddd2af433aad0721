use Rattle.kr_loose.proofs.MarkTurnLemmas.{edits-mark-nothing}
use Rattle.kr_loose.proofs.marks.edits_mark_nothing.Goals as goal

pub returns : goal.returns
returns c = edits-mark-nothing
