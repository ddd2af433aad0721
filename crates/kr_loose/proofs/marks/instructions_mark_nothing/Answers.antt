use Rattle.kr_loose.proofs.UnmarkedLemmas.{instructions-mark-nothing}
use Rattle.kr_loose.proofs.marks.instructions_mark_nothing.Goals as goal

pub returns : goal.returns
returns c = instructions-mark-nothing
