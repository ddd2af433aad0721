use Rattle.kr_steps.proofs.DecodedLemmas.{decoded_waits}
use Rattle.kr_steps.proofs.waits.waits_are_decoded.Goals as goal

pub returns : goal.returns
returns c = decoded_waits
