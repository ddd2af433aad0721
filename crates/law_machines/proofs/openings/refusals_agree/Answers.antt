use Rattle.law_machines.proofs.OpeningLemmas.{refusals_agree}
use Rattle.law_machines.proofs.openings.refusals_agree.Goals as goal

pub returns : goal.returns
returns c = refusals_agree
