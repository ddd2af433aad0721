use Rattle.pt_ident.proofs.OwnerLemmas.{owners_change}
use Rattle.pt_ident.proofs.laws.owners_change.Goals as goal

pub returns : goal.returns
returns c = owners_change
