use Rattle.std.proofs.Common.{◌≡◌, ◌+◌, ◌≤◌, ◌<◌, ◌^◌, length}
use Rattle.std.specs.Fmt.{decimal}
use Rattle.kr_walk.proofs.name.digits.Given as goal

abbrev pub invariant-loop-left : goal.invariant-loop-left
invariant-loop-left l = record {
  small : l.left < 2 ^ 32;
  some : 1 ≤ l.count;
  exact : l.count + length (decimal l.left) ≡ 1 + length (decimal l.number);
}

abbrev pub decreases-loop-left : goal.decreases-loop-left
decreases-loop-left l = l.left
