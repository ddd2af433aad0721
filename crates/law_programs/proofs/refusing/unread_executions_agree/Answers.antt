use Rattle.law_programs.proofs.RefuseLemmas.{unread_executions_agree}
use Rattle.law_programs.proofs.refusing.unread_executions_agree.Goals as goal

pub returns : goal.returns
returns c = unread_executions_agree
