use Rattle.law_programs.proofs.FindLemmas.{programs_are_found_alike}
use Rattle.law_programs.proofs.agreeing.programs_are_found_alike.Goals as goal

pub returns : goal.returns
returns g c = programs_are_found_alike _
