use Rattle.std.proofs.Common.{sym, subst}
use Rattle.kr_tree.specs.Tree.{entries}
use Rattle.kr_text.specs.Order.{AreNamed}
use Rattle.kr_text.proofs.OrderLemmas.{are_named}
use Rattle.kr_text.proofs.OrderedNames.{distinct_entries}
use Rattle.kr_text.proofs.SortedNames.{items_in_order}
use Rattle.kr_text.proofs.order.InOrder.of.Goals as goal

pub returns-clause-names : goal.returns-clause-names
returns-clause-names c =
    items_in_order (entries c.args.tree.now c.args.dir) c.in_ok-items.items.items c.sort_unstable.new.self.items (distinct_entries c.args.tree.now c.args.dir c.trees_are_kept.ensures.kept) c.in_ok-items.ensures.pairs c.in_ok-items.ensures.heads c.sort_unstable.ensures.permutation c.sort_unstable.ensures.sorted

pub returns-clause-well_formed : goal.returns-clause-well_formed
returns-clause-well_formed c =
    subst AreNamed (sym (returns-clause-names c)) (are_named c.args.tree.now c.args.dir c.trees_are_kept.ensures.kept)
