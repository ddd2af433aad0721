use Rattle.std.proofs.Common.{refl, ◌+◌}
use Rattle.kr_tree.specs.Changes.{with_holds}
use Rattle.kr_tree.proofs.QuietLemmas.{kept-still, held_used}
use Rattle.kr_tree.proofs.tree.Tree.hold.Goals as goal

pub invariant_of-self : goal.invariant_of-self
invariant_of-self c =
    kept-still _ c.args.ino (with_holds (λ n. n + 1)) (λ _. refl) (λ _. refl) (λ _. refl) (λ _. refl) c.self.invariant held_used c.hold.new.self c.hold.ensures
