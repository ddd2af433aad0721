use Rattle.pt_ident.proofs.NumberLemmas.{refused_change_nothing}
use Rattle.pt_ident.proofs.laws.refused_change_nothing.Goals as goal

pub returns : goal.returns
returns c = refused_change_nothing
