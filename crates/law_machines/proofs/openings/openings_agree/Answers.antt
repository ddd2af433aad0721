use Rattle.law_machines.proofs.OpeningLemmas.{openings_agree}
use Rattle.law_machines.proofs.openings.openings_agree.Goals as goal

pub returns : goal.returns
returns c = openings_agree c.machines_agree.ensures c.faked_machines_agree.ensures
