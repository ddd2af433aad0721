use Rattle.pt_canon.proofs.LookLemmas.{texts_are_looked_at}
use Rattle.pt_canon.proofs.laws.texts_are_looked_at.Goals as goal

pub returns : goal.returns
returns c = texts_are_looked_at
