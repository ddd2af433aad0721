use Rattle.law_execves.proofs.ReadyLemmas.{ready_programs_can_be_put}
use Rattle.law_execves.proofs.replacing.ready_programs_can_be_put.Goals as goal

pub returns : goal.returns
returns c = ready_programs_can_be_put
