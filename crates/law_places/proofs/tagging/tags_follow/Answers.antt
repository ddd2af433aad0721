use Rattle.law_places.proofs.SlotLemmas.{tags_follow}
use Rattle.law_places.proofs.tagging.tags_follow.Goals as goal

pub returns : goal.returns
returns c = tags_follow
