use Rattle.law_execves.proofs.FirstStopLemmas.{execves_begin_together}
use Rattle.law_execves.proofs.beginning.execves_begin_together.Goals as goal

pub returns : goal.returns
returns g c = execves_begin_together _
