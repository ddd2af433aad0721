use Rattle.kr_seen.proofs.ChangeLemmas.{changes-are-numbered}
use Rattle.kr_seen.proofs.mounts.changes_are_numbered.Goals as goal

pub returns : goal.returns
returns g c = changes-are-numbered
