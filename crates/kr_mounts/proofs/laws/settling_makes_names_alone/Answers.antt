use Rattle.kr_mounts.proofs.GrowthLemmas.{settling_makes_names_alone}
use Rattle.kr_mounts.proofs.laws.settling_makes_names_alone.Goals as goal

pub returns : goal.returns
returns c = settling_makes_names_alone
