use Rattle.law_allowed.proofs.DecodedLemmas.{decoded-are-givable}
use Rattle.law_allowed.proofs.laws.decoded_are_givable.Goals as goal

pub returns : goal.returns
returns c = decoded-are-givable
