use Rattle.std.proofs.Common.{refl}
use Rattle.kr_tree.specs.Changes.{with_owner}
use Rattle.kr_tree.proofs.QuietLemmas.{kept-still}
use Rattle.kr_tree.proofs.tree.Tree.set_owner.Goals as goal

pub invariant_of-self : goal.invariant_of-self
invariant_of-self c =
    kept-still _ c.args.ino (with_owner c.args.uid c.args.gid) (λ _. refl) (λ _. refl) (λ _. refl) (λ _. refl) c.self.invariant (λ _ h. h) c.set_owner.new.self c.set_owner.ensures
