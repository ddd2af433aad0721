use Rattle.law_programs.proofs.ExecuteLemmas.{executions_agree}
use Rattle.law_programs.proofs.executing.executions_agree.Goals as goal

pub returns : goal.returns
returns c = executions_agree
