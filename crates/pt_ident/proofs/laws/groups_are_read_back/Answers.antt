use Rattle.pt_ident.proofs.ByteLemmas.{groups_are_read_back}
use Rattle.pt_ident.proofs.laws.groups_are_read_back.Goals as goal

pub returns : goal.returns
returns c = groups_are_read_back
