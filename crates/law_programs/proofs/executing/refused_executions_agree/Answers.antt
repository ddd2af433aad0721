use Rattle.law_programs.proofs.ExecuteLemmas.{refused_executions_agree}
use Rattle.law_programs.proofs.executing.refused_executions_agree.Goals as goal

pub returns : goal.returns
returns c = refused_executions_agree
