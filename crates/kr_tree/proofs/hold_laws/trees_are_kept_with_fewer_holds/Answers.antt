use Rattle.kr_tree.proofs.HoldLemmas.{trees_are_kept_with_fewer_holds}
use Rattle.kr_tree.proofs.hold_laws.trees_are_kept_with_fewer_holds.Goals as goal

pub returns : goal.returns
returns c = trees_are_kept_with_fewer_holds
