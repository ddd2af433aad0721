use Rattle.law_programs.proofs.RefuseLemmas.{paths_lead_alike}
use Rattle.law_programs.proofs.refusing.paths_lead_alike.Goals as goal

pub returns : goal.returns
returns g c = paths_lead_alike _
