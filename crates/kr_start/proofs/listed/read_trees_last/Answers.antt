use Rattle.kr_start.proofs.ReadLemmas.{read-last}
use Rattle.kr_start.proofs.listed.read_trees_last.Goals as goal

pub returns : goal.returns
returns c = read-last
