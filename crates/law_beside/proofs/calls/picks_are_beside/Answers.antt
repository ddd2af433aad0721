use Rattle.law_beside.proofs.PickLemmas.{picks_are_beside}
use Rattle.law_beside.proofs.calls.picks_are_beside.Goals as goal

pub returns : goal.returns
returns g c = picks_are_beside _
