use Rattle.law_machines.proofs.WordLemmas.{asked-are-sound}
use Rattle.law_machines.proofs.given.asked_are_sound.Goals as goal

pub returns : goal.returns
returns c = asked-are-sound
