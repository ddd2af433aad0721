use Rattle.kr_hostview.proofs.LawLemmas.{hosts-have-one-mount}
use Rattle.kr_hostview.proofs.laws.hosts_have_one_mount.Goals as goal

pub returns : goal.returns
returns g c = hosts-have-one-mount
