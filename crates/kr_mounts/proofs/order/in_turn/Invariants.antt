use Rattle.std.proofs.Common.{◌≡◌}
use Rattle.kr_mounts.proofs.order.in_turn.Given as goal

abbrev pub invariant-loop-one : goal.invariant-loop-one
invariant-loop-one l = l.ordered.items ≡ l.yielded
