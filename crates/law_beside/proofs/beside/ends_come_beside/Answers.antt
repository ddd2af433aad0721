use Rattle.law_beside.proofs.BetweenLemmas.{ends_come_beside}
use Rattle.law_beside.proofs.beside.ends_come_beside.Goals as goal

pub returns : goal.returns
returns c = ends_come_beside
