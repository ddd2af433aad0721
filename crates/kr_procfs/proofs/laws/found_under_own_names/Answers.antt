use Rattle.kr_procfs.proofs.ObjectLemmas.{own_names}
use Rattle.kr_procfs.proofs.laws.found_under_own_names.Goals as goal

pub returns : goal.returns
returns c = own_names
