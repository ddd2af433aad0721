use Rattle.std.proofs.Common.{subst}
use Rattle.kr_tree.specs.Lawful.{IsKept, HasItsInodes}
use Rattle.kr_tree.proofs.CountLemmas.{there}
use Rattle.kr_tree.proofs.tree.Tree.is_kept.Goals as goal

pub returns-clause-kept : goal.returns-clause-kept
returns-clause-kept c = subst IsKept c.self.view_is c.self.invariant

pub returns-clause-there : goal.returns-clause-there
returns-clause-there c = subst (λ t. HasItsInodes t) c.self.view_is (there _ c.self.invariant.sound c.self.invariant.counted)
