use Rattle.law_machines.proofs.GivenOpeningLemmas.{settled-is-opening}
use Rattle.law_machines.proofs.given.settled_is_opening.Goals as goal

pub returns : goal.returns
returns c = settled-is-opening
