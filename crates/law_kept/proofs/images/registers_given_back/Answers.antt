use Rattle.law_kept.proofs.GivenLemmas.{registers_given_back}
use Rattle.law_kept.proofs.images.registers_given_back.Goals as goal

pub returns : goal.returns
returns g c = registers_given_back _
