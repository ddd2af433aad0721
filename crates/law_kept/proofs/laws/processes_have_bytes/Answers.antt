use Rattle.law_kept.proofs.LivingLemmas.{process-bytes}
use Rattle.law_kept.proofs.laws.processes_have_bytes.Goals as goal

pub returns : goal.returns
returns g c = process-bytes
