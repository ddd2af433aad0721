use Rattle.kr_procfs.proofs.ObjectLemmas.{one_object}
use Rattle.kr_procfs.proofs.laws.names_stand_for_one.Goals as goal

pub returns : goal.returns
returns c = one_object
