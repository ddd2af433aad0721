use Rattle.law_kept.proofs.MemoryApartLemmas.{one_runs}
use Rattle.law_kept.proofs.memories.one_that_is_ready_runs.Goals as goal

pub returns : goal.returns
returns c = one_runs
