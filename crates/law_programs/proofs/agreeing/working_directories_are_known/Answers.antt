use Rattle.law_programs.proofs.WorkLemmas.{working_directories_are_known}
use Rattle.law_programs.proofs.agreeing.working_directories_are_known.Goals as goal

pub returns : goal.returns
returns g c = working_directories_are_known _
