use Rattle.pt_ident.proofs.OwnerLemmas.{three_changes}
use Rattle.pt_ident.proofs.laws.three_changes.Goals as goal

pub returns : goal.returns
returns c = three_changes
