use Rattle.law_places.proofs.MoveLemmas.{moves_leave_most}
use Rattle.law_places.proofs.moving.moves_leave_most.Goals as goal

pub returns : goal.returns
returns c = moves_leave_most
