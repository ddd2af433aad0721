use Rattle.kr_start.proofs.GrownLemmas.{settled-last}
use Rattle.kr_start.proofs.listed.settled_trees_last.Goals as goal

pub returns : goal.returns
returns c = settled-last
