use Rattle.law_programs.proofs.RefuseLemmas.{missing_executions_agree}
use Rattle.law_programs.proofs.refusing.missing_executions_agree.Goals as goal

pub returns : goal.returns
returns c = missing_executions_agree
