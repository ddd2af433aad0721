use Rattle.kr_mounts.proofs.BeforeLemmas.{grown_trees_have_all_before}
use Rattle.kr_mounts.proofs.laws.grown_trees_have_all_before.Goals as goal

pub returns : goal.returns
returns c = grown_trees_have_all_before
