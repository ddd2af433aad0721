use Rattle.law_marks.proofs.MemoryLemmas.{marks_are_apart}
use Rattle.law_marks.proofs.memories.marks_are_apart.Goals as goal

pub returns : goal.returns
returns c = marks_are_apart
