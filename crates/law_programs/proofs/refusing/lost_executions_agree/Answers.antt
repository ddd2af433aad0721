use Rattle.law_programs.proofs.RefuseLemmas.{lost_executions_agree}
use Rattle.law_programs.proofs.refusing.lost_executions_agree.Goals as goal

pub returns : goal.returns
returns c = lost_executions_agree
