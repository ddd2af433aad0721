use Rattle.law_programs.proofs.PlanLemmas.{programs_are_planned_alike}
use Rattle.law_programs.proofs.agreeing.programs_are_planned_alike.Goals as goal

pub returns : goal.returns
returns g c = programs_are_planned_alike _
