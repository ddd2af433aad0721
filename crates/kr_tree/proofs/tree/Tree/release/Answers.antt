use Rattle.std.proofs.Common.{ℕ, ◌-◌, ◌≤◌, ◌∙◌, ap, sym, subst, refl}
use Rattle.kr_tree.specs.Tree.{Tree, Inodes}
use Rattle.kr_tree.specs.Changes.{with_inode, with_holds, without_unused, freed}
use Rattle.kr_tree.specs.Lawful.{IsKept}
use Rattle.kr_inode.proofs.pr_base.MapLemmas.{get-changed_other}
use Rattle.kr_tree.proofs.OfBytesLemmas.{of_bytes-with}
use Rattle.kr_tree.proofs.QuietLemmas.{sound-still, counted-still}
use Rattle.kr_tree.proofs.DropLemmas.{kept-dropped, freed-le}
use Rattle.kr_tree.proofs.tree.Tree.release.Goals as goal

pub overflow_sub-self : goal.overflow_sub-self
overflow_sub-self c =
    let t : Tree = record { inodes = c.self.inside.store; next = c.self.inside.next; names = c.self.inside.names; bytes = c.self.inside.bytes } in
    let u : Tree = record { inodes = with_inode c.args.ino (with_holds (λ n. n - 1)) t.inodes; next = t.next; names = t.names; bytes = t.bytes } in
    let P : ℕ → Type 0 = λ n. n ≤ t.bytes in
    subst P (sym (c.remove_if_unused-freed.ensures.bytes ∙ ap (freed c.args.ino) c.release.ensures))
    (freed-le u (sound-still t c.args.ino (with_holds (λ n. n - 1)) (λ _. refl) (λ _. refl) (λ _. refl) (λ _. refl) c.self.invariant.sound)
    (counted-still t c.args.ino (with_holds (λ n. n - 1)) (λ _. refl) (λ _. refl) (λ _. refl) (λ _. refl) c.self.invariant.sound c.self.invariant.counted) c.args.ino)

pub invariant_of-self : goal.invariant_of-self
invariant_of-self c =
    let t : Tree = record { inodes = c.self.inside.store; next = c.self.inside.next; names = c.self.inside.names; bytes = c.self.inside.bytes } in
    let u : Tree = record { inodes = with_inode c.args.ino (with_holds (λ n. n - 1)) t.inodes; next = t.next; names = t.names; bytes = t.bytes } in
    let P : Inodes → ℕ → Type 0 = λ m n. IsKept (record { inodes = m; next = t.next; names = t.names; bytes = t.bytes - n }) in
    subst (λ n. P c.remove_if_unused-freed.new.self n) (sym (c.remove_if_unused-freed.ensures.bytes ∙ ap (freed c.args.ino) c.release.ensures))
    (subst (λ m. P m (freed c.args.ino u.inodes)) (sym (c.remove_if_unused-freed.ensures.inodes ∙ ap (without_unused c.args.ino) c.release.ensures))
    (kept-dropped u (sound-still t c.args.ino (with_holds (λ n. n - 1)) (λ _. refl) (λ _. refl) (λ _. refl) (λ _. refl) c.self.invariant.sound)
    (counted-still t c.args.ino (with_holds (λ n. n - 1)) (λ _. refl) (λ _. refl) (λ _. refl) (λ _. refl) c.self.invariant.sound c.self.invariant.counted)
    c.args.ino (λ i z away at. c.self.invariant.used i z (sym (get-changed_other t.inodes c.args.ino (with_holds (λ n. n - 1)) i away) ∙ at))
    (of_bytes-with t.inodes c.args.ino (with_holds (λ n. n - 1)) c.self.invariant.bytes (λ _ is. is))))
