use Rattle.pt_bind.proofs.LawLemmas.{owners_are_longest}
use Rattle.pt_bind.proofs.laws.owners_are_longest.Goals as goal

pub returns : goal.returns
returns c = owners_are_longest
