use Rattle.kr_calm.proofs.ChangeLemmas.{unjudged_break_none}
use Rattle.kr_calm.proofs.laws.unjudged_changes_break_none.Goals as goal

pub returns : goal.returns
returns g c = λ computing mounts pid table cs s e. unjudged_break_none computing mounts pid table cs s e
