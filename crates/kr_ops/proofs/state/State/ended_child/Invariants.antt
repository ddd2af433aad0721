use Rattle.std.proofs.Common.{◌≡◌, None, take}
use Rattle.std.specs.List.{find}
use Rattle.kr_ops.specs.Children.{is_ended_child}
use Rattle.kr_ops.proofs.state.State.ended_child.Given as goal

abbrev pub invariant-loop-k : goal.invariant-loop-k
invariant-loop-k g l = find (is_ended_child l.parent l.meant) (take l.k l.self.ended.items) ≡ None
