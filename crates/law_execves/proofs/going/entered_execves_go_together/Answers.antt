use Rattle.law_execves.proofs.GoLemmas.{entered_execves_go_together}
use Rattle.law_execves.proofs.going.entered_execves_go_together.Goals as goal

pub returns : goal.returns
returns g c = entered_execves_go_together _
