use Rattle.pt_ident.proofs.NumberLemmas.{nobody_becomes_privileged}
use Rattle.pt_ident.proofs.laws.nobody_becomes_privileged.Goals as goal

pub returns : goal.returns
returns c = nobody_becomes_privileged
