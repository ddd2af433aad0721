use Rattle.law_beside.proofs.BesideLemmas.{changes_come_beside}
use Rattle.law_beside.proofs.beside.changes_come_beside.Goals as goal

pub returns : goal.returns
returns g c = changes_come_beside _
