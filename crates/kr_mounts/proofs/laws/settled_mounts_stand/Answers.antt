use Rattle.kr_mounts.proofs.LeadLemmas.{settled_mounts_stand}
use Rattle.kr_mounts.proofs.laws.settled_mounts_stand.Goals as goal

pub returns : goal.returns
returns c = settled_mounts_stand
