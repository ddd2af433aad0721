use Rattle.kr_tree.proofs.HoldCountLemmas.{holds_are_counted}
use Rattle.kr_tree.proofs.hold_laws.holds_are_counted.Goals as goal

pub returns : goal.returns
returns c = holds_are_counted
