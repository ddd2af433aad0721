use Rattle.kr_procfs.proofs.ObjectLemmas.{rising}
use Rattle.kr_procfs.proofs.laws.serials_rise.Goals as goal

pub returns : goal.returns
returns c = rising
