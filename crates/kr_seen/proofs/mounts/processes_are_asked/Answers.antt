use Rattle.kr_seen.proofs.LookLemmas.{processes-are-asked}
use Rattle.kr_seen.proofs.mounts.processes_are_asked.Goals as goal

pub returns : goal.returns
returns g c = processes-are-asked
