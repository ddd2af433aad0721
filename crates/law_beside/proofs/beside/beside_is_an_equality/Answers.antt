use Rattle.law_beside.proofs.BesideLemmas.{beside_is_an_equality}
use Rattle.law_beside.proofs.beside.beside_is_an_equality.Goals as goal

pub returns : goal.returns
returns g c = beside_is_an_equality _
