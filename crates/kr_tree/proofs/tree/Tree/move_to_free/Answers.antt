use Rattle.std.specs.FinMap as map
use Rattle.std.proofs.Common.{◌≡◌, true, ◌∙◌, ap, sym, subst, ℕ, ◌+◌, ◌<◌, ◌^◌, List, Some, None, Bool, arith, refl}
use Rattle.std.specs.Prelude.{IfSome}
use Rattle.kr_tree.specs.Tree.{Tree, Inodes, entry, body_is, is_directory, takes_names}
use Rattle.kr_tree.specs.Changes.{with_inode, with_body, with_standing, with_entry, without_entry, next_serial, moved, with_inodes}
use Rattle.kr_tree.specs.Lawful.{IsKept, IsBelow}
use Rattle.kr_tree.proofs.CountLemmas.{directories_few}
use Rattle.kr_tree.proofs.MoveLemmas.{kept-move}
use Rattle.kr_tree.proofs.OfBytesLemmas.{known_bytes}
use Rattle.kr_tree.proofs.tree.Tree.move_to_free.Goals as goal
use Rattle.kr_tree.proofs.tree.Tree.move_to_free.Goals.{After-stand}

pub add_entry-requires-clause-directories : goal.add_entry-requires-clause-directories
add_entry-requires-clause-directories c =
    let t : Tree = record { inodes = c.self.inside.store; next = c.self.inside.next; names = c.self.inside.names; bytes = c.self.inside.bytes } in
    elim (map.get c.self.inside.store c.args.to) as (λ o. map.get c.self.inside.store c.args.to ≡ o → IfSome o (λ x. x.directories + 1 < 2 ^ 32)) [
      | None ↦ λ _. tt
      | Some x ↦ λ h. let few = directories_few t c.self.invariant.sound c.self.invariant.counted c.args.to x h in omega arith
    ] refl

abbrev tree_of : After-stand → Tree
tree_of c = record { inodes = c.self.inside.store; next = c.self.inside.next; names = c.self.inside.names; bytes = c.self.inside.bytes }

done : (c : After-stand) → IsKept (record { inodes = c.stand.new.self; next = c.self.inside.next; names = c.self.inside.names; bytes = c.self.inside.bytes }) × (c.stand.new.self ≡ (moved c.args.dir c.args.name.now c.args.to c.args.new.now c.args.ino (tree_of c)).inodes)
done c =
    let t : Tree = tree_of c in
    let There : Tree → Type 0 = λ t. entry t c.args.dir c.args.name.now ≡ Some c.args.ino in
    let Takes : Tree → Type 0 = λ t. body_is takes_names t c.args.to ≡ true in
    let Free : Tree → Type 0 = λ t. entry t c.args.to c.args.new.now ≡ None in
    let Aside : Tree → Type 0 = λ t. body_is is_directory t c.args.ino ≡ true → ¬ IsBelow t c.args.ino c.args.to in
    let view = sym c.self.view_is in
    let dirs : c.is_directory-is_dir.result ≡ body_is is_directory t c.args.ino = c.is_directory-is_dir.ensures ∙ ap (λ t. body_is is_directory t c.args.ino) view in
    let serial : c.next_serial.result ≡ next_serial t c.args.to = c.next_serial.ensures ∙ ap (λ t. next_serial t c.args.to) view in
    let step : ℕ → Bool → List ℕ → Inodes = λ n b new.
    with_inode c.args.ino (with_body (with_standing (Some (record { inode = c.args.to; serial = n })))) (with_inode c.args.dir (without_entry c.args.name.now b) (with_inode c.args.to (with_entry new c.args.ino b) c.self.inside.store)) in
    kept-move t c.self.invariant c.args.dir c.args.name.now c.args.to c.args.new.now c.args.ino
    (subst There view c.requires.there) (subst Takes view c.requires.takes) c.requires.well_formed (subst Free view c.requires.free) (subst Aside view c.requires.aside) (known_bytes c.args.new.now c.type_inv.new)
    c.stand.new.self
    (c.stand.ensures
    ∙ ap (with_inode c.args.ino (with_body (with_standing (Some (record { inode = c.args.to; serial = c.next_serial.result })))))
    (c.remove_entry.ensures ∙ ap (with_inode c.args.dir (without_entry c.args.name.now c.is_directory-is_dir.result)) c.in_ok-add_entry.ensures.ok)
    ∙ ap (step c.next_serial.result c.is_directory-is_dir.result) c.in_ok-copy.ensures
    ∙ ap (λ b. step c.next_serial.result b c.args.new.now) dirs
    ∙ ap (λ n. step n (body_is is_directory t c.args.ino) c.args.new.now) serial)

pub invariant_of-self-2 : goal.invariant_of-self-2
invariant_of-self-2 c = (done c).0

pub returns-clause-ok : goal.returns-clause-ok
returns-clause-ok c =
    ap (λ m. with_inodes m (tree_of c)) (done c).1 ∙ ap (moved c.args.dir c.args.name.now c.args.to c.args.new.now c.args.ino) c.self.view_is
