use Rattle.law_kept.proofs.MemoryApartLemmas.{rest_without_ready}
use Rattle.law_kept.proofs.memories.nothing_changes_where_none_is_ready.Goals as goal

pub returns : goal.returns
returns g c = rest_without_ready _
