use Rattle.law_programs.proofs.RefuseLemmas.{empty_executions_agree}
use Rattle.law_programs.proofs.refusing.empty_executions_agree.Goals as goal

pub returns : goal.returns
returns c = empty_executions_agree
