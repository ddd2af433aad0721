use Rattle.std.proofs.Common.{◌≡◌, false, take}
use Rattle.std.specs.Prelude.{map as map_list}
use Rattle.std.specs.List.{list_any}
use Rattle.kr_ops.specs.Children.{is_child}
use Rattle.kr_ops.specs.Meaning.{process_meaning}
use Rattle.kr_ops.proofs.state.State.has_child.Given as goal

abbrev pub invariant-loop-k : goal.invariant-loop-k
invariant-loop-k g l = list_any (is_child l.parent l.meant) (map_list process_meaning (take l.k l.self.living.items)) ≡ false
