use Rattle.kr_calm.proofs.ChangeLemmas.{quiet_changes_break_none}
use Rattle.kr_calm.proofs.laws.quiet_changes_break_none.Goals as goal

pub returns : goal.returns
returns g c = λ computing mounts pid table cs s e. quiet_changes_break_none computing mounts pid table cs s e
