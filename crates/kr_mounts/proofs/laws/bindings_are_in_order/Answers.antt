use Rattle.kr_mounts.proofs.OrderLemmas.{bindings_are_in_order}
use Rattle.kr_mounts.proofs.laws.bindings_are_in_order.Goals as goal

pub returns : goal.returns
returns c = bindings_are_in_order
