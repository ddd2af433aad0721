use Rattle.kr_calm.proofs.ChangeLemmas.{end_breaks}
use Rattle.kr_calm.proofs.laws.ends_break_the_fourth.Goals as goal

pub returns : goal.returns
returns g c = λ computing mounts pid table status s. end_breaks computing mounts pid table status s
