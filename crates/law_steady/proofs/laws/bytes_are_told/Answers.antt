use Rattle.law_steady.proofs.BytesLemmas.{bytes_are_told}
use Rattle.law_steady.proofs.laws.bytes_are_told.Goals as goal

pub returns : goal.returns
returns g c = bytes_are_told _
