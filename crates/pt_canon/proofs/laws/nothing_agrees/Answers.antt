use Rattle.pt_canon.proofs.RememberLemmas.{nothing_agrees}
use Rattle.pt_canon.proofs.laws.nothing_agrees.Goals as goal

pub returns : goal.returns
returns c = nothing_agrees
