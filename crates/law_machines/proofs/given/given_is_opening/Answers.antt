use Rattle.law_machines.proofs.GivenLemmas.{given-is-opening}
use Rattle.law_machines.proofs.given.given_is_opening.Goals as goal

pub returns : goal.returns
returns c = given-is-opening
