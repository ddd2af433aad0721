use Rattle.pt_bind.proofs.TagLemmas.{tags_change}
use Rattle.pt_bind.proofs.laws.tags_change.Goals as goal

pub returns : goal.returns
returns c = tags_change
