use Rattle.law_execves.proofs.RewriteLemmas.{execves_are_rewritten}
use Rattle.law_execves.proofs.going.execves_are_rewritten.Goals as goal

pub returns : goal.returns
returns c = execves_are_rewritten
