use Rattle.std.proofs.Common.{◌≡◌, ◌++◌, length}
use Rattle.std.specs.List.{All}
use Rattle.kr_tree.specs.Tree.{entries}
use Rattle.kr_text.specs.Order.{HasHead, pairs_of, pairs_in}
use Rattle.kr_text.proofs.OrderLemmas.{later}
use Rattle.kr_text.proofs.order.items_of.Given as goal

abbrev pub invariant-loop-serial : goal.invariant-loop-serial
invariant-loop-serial l = record {
  pairs : pairs_of l.items.items ++ pairs_in (later l.after (entries l.tree l.dir)) ≡ pairs_in (entries l.tree l.dir);
  heads : All HasHead l.items.items;
}

abbrev pub decreases-loop-serial : goal.decreases-loop-serial
decreases-loop-serial l = length (later l.after (entries l.tree l.dir))
