use Rattle.kr_model.proofs.LineLemmas.{others_leave_memory}
use Rattle.kr_model.proofs.laws.others_leave_memory.Goals as goal

pub returns : goal.returns
returns c = others_leave_memory
