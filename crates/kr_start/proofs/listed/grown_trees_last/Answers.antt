use Rattle.kr_start.proofs.GrownLemmas.{grown-last}
use Rattle.kr_start.proofs.listed.grown_trees_last.Goals as goal

pub returns : goal.returns
returns c = grown-last
