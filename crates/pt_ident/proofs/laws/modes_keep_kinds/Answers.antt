use Rattle.pt_ident.proofs.OwnerLemmas.{modes_keep_kinds}
use Rattle.pt_ident.proofs.laws.modes_keep_kinds.Goals as goal

pub returns : goal.returns
returns c = modes_keep_kinds
