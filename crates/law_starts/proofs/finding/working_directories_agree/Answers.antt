use Rattle.law_starts.proofs.WorkingLemmas.{working-directories-agree}
use Rattle.law_starts.proofs.finding.working_directories_agree.Goals as goal

pub returns : goal.returns
returns c = working-directories-agree
