use Rattle.law_marks.proofs.InstructionLemmas.{instructions_see_no_marks}
use Rattle.law_marks.proofs.memories.instructions_see_no_marks.Goals as goal

pub returns : goal.returns
returns c = instructions_see_no_marks
