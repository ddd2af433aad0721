use Rattle.law_programs.proofs.ExpandLemmas.{expansions_agree}
use Rattle.law_programs.proofs.agreeing.expansions_agree.Goals as goal

pub returns : goal.returns
returns g c = expansions_agree _
