use Rattle.std.proofs.Common.{refl}
use Rattle.kr_tree.specs.Changes.{with_mode}
use Rattle.kr_tree.proofs.QuietLemmas.{kept-still}
use Rattle.kr_tree.proofs.tree.Tree.set_mode.Goals as goal

pub invariant_of-self : goal.invariant_of-self
invariant_of-self c =
    kept-still _ c.args.ino (with_mode c.args.mode) (λ _. refl) (λ _. refl) (λ _. refl) (λ _. refl) c.self.invariant (λ _ h. h) c.set_mode.new.self c.set_mode.ensures
