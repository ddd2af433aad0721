use Rattle.law_marks.proofs.MemoryLemmas.{actions_see_no_marks}
use Rattle.law_marks.proofs.memories.actions_see_no_marks.Goals as goal

pub returns : goal.returns
returns g c = actions_see_no_marks _
