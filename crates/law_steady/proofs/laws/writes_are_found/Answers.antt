use Rattle.law_steady.proofs.WriteRows.{writes_are_found}
use Rattle.law_steady.proofs.laws.writes_are_found.Goals as goal

pub returns : goal.returns
returns g c = writes_are_found _
