use Rattle.pt_ident.proofs.NumberLemmas.{unprivileged_make_nothing}
use Rattle.pt_ident.proofs.laws.unprivileged_make_nothing.Goals as goal

pub returns : goal.returns
returns c = unprivileged_make_nothing
