use Rattle.std.proofs.Common.{◌≡◌, ℕ, List, subst, sym, ◌∙◌}
use Rattle.std.specs.Prelude.{◌↔◌}
use Rattle.kr_tree.specs.Tree.{Inode, Inodes, with_values}
use Rattle.kr_tree.proofs.NodesLemmas.{shown, same_nodes}
use Rattle.kr_tree.proofs.StoreLemmas.{inodes_of}
use Rattle.kr_tree.proofs.store.Store.same.Goals as goal

pub loop-ino-init : goal.loop-ino-init
loop-ino-init c =
    let Alike : List (ℕ × Inode) → List (ℕ × Inode) → Inodes → Inodes → Type 0 = λ es fs m n. (shown es ≡ shown fs) ↔ (with_values (λ x. x.node) m ≡ with_values (λ x. x.node) n) in
    subst (λ es. Alike es c.iter-others.result c.args.self.now c.args.other.now) (sym (c.into_iter-ino-iterator.ensures.into_iter_gives ∙ c.iter-ino-items.ensures.rest))
    (subst (λ fs. Alike c.self.inside.inodes.entries fs c.args.self.now c.args.other.now) (sym c.iter-others.ensures.rest)
    (subst (λ m. Alike c.self.inside.inodes.entries c.other.inside.inodes.entries m c.args.other.now) c.self.view_is
    (subst (λ n. Alike c.self.inside.inodes.entries c.other.inside.inodes.entries (inodes_of c.self.inside.inodes.entries) n) c.other.view_is
    (same_nodes c.self.inside.inodes.entries c.other.inside.inodes.entries c.iter-ino-items.ensures.ordered c.iter-others.ensures.ordered))))
