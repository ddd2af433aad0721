use Rattle.law_edits.proofs.FreshLemmas.{fresh_memories_stay}
use Rattle.law_edits.proofs.fresh.fresh_memories_stay.Goals as goal

pub returns : goal.returns
returns g c = fresh_memories_stay _
