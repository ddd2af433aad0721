use Rattle.pr_base.proofs.TextLemmas.{names_stand_in_front}
use Rattle.pr_base.proofs.laws.names_stand_in_front.Goals as goal

pub returns : goal.returns
returns c = names_stand_in_front
