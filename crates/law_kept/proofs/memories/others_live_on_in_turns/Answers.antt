use Rattle.law_kept.proofs.MemoryApartLemmas.{others_live_on}
use Rattle.law_kept.proofs.memories.others_live_on_in_turns.Goals as goal

pub returns : goal.returns
returns g c = others_live_on _
