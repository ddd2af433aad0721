use Rattle.std.proofs.Common.{vec_len}
use Rattle.kr_mounts.specs.Turns.{HaveTurns}
use Rattle.kr_mounts.proofs.order.in_order.Given as goal

abbrev pub invariant-loop-one : goal.invariant-loop-one
invariant-loop-one l = HaveTurns l.fn.located.items l.left.items l.seen l.turns

abbrev pub decreases-loop-one : goal.decreases-loop-one
decreases-loop-one l = vec_len l.left
