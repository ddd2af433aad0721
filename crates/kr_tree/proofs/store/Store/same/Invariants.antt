use Rattle.std.proofs.Common.{◌≡◌}
use Rattle.std.specs.Prelude.{◌↔◌}
use Rattle.kr_tree.specs.Tree.{with_values}
use Rattle.kr_tree.proofs.NodesLemmas.{shown}
use Rattle.kr_tree.proofs.store.Store.same.Given as goal

-- what is left has the same nodes where the whole has
abbrev pub invariant-loop-ino : goal.invariant-loop-ino
invariant-loop-ino l = (shown l.ino-iterator ≡ shown l.others) ↔ (with_values (λ x. x.node) l.self ≡ with_values (λ x. x.node) l.other)
