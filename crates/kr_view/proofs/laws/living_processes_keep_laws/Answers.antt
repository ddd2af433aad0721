use Rattle.kr_view.proofs.LivingLemmas.{living_processes}
use Rattle.kr_view.proofs.laws.living_processes_keep_laws.Goals as goal

pub returns : goal.returns
returns c = living_processes
