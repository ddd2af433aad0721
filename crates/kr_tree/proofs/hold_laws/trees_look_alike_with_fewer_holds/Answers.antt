use Rattle.kr_tree.proofs.HoldLemmas.{trees_look_alike_with_fewer_holds}
use Rattle.kr_tree.proofs.hold_laws.trees_look_alike_with_fewer_holds.Goals as goal

pub returns : goal.returns
returns c = trees_look_alike_with_fewer_holds
