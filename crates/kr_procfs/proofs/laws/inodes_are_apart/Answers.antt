use Rattle.kr_procfs.proofs.ObjectLemmas.{apart}
use Rattle.kr_procfs.proofs.laws.inodes_are_apart.Goals as goal

pub returns : goal.returns
returns c = apart
