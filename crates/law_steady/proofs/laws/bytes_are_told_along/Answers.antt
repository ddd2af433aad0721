use Rattle.law_steady.proofs.BytesAlongLemmas.{bytes_are_told_along}
use Rattle.law_steady.proofs.laws.bytes_are_told_along.Goals as goal

pub returns : goal.returns
returns g c = bytes_are_told_along _
