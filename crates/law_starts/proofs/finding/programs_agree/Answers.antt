use Rattle.law_starts.proofs.ProgramLemmas.{programs-agree}
use Rattle.law_starts.proofs.finding.programs_agree.Goals as goal

pub returns : goal.returns
returns c = programs-agree
