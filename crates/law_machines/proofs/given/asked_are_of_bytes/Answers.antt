use Rattle.law_machines.proofs.WordLemmas.{asked-are-of-bytes}
use Rattle.law_machines.proofs.given.asked_are_of_bytes.Goals as goal

pub returns : goal.returns
returns c = asked-are-of-bytes
