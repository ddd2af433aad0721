use Rattle.law_execves.proofs.GoLemmas.{cancelled_execves_go_together}
use Rattle.law_execves.proofs.going.cancelled_execves_go_together.Goals as goal

pub returns : goal.returns
returns g c = cancelled_execves_go_together _
