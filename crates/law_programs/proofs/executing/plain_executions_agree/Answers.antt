use Rattle.law_programs.proofs.PlainLemmas.{plain_executions_agree}
use Rattle.law_programs.proofs.executing.plain_executions_agree.Goals as goal

pub returns : goal.returns
returns c = plain_executions_agree
