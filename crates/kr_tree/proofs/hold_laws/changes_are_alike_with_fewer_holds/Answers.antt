use Rattle.kr_tree.proofs.HoldLemmas.{changes_are_alike_with_fewer_holds}
use Rattle.kr_tree.proofs.hold_laws.changes_are_alike_with_fewer_holds.Goals as goal

pub returns : goal.returns
returns c = changes_are_alike_with_fewer_holds
