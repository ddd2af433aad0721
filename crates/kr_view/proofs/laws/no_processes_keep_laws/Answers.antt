use Rattle.kr_view.proofs.ProcessLemmas.{no_processes}
use Rattle.kr_view.proofs.laws.no_processes_keep_laws.Goals as goal

pub returns : goal.returns
returns c = no_processes
