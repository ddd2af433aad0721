use Rattle.std.proofs.Common.{◌≡◌, false, ◌∙◌, ap, sym, subst, Option, Some, ℕ}
use Rattle.std.specs.Prelude.{IfSome}
use Rattle.std.specs.Option.{option_map_or}
use Rattle.std.specs.FinMap as map
use Rattle.std.proofs.Common.{◌<◌}
use Rattle.kr_tree.specs.Tree.{Tree, Inode, Inodes, entry, body_is, is_filled, is_directory}
use Rattle.kr_tree.specs.Changes.{with_inode, unnamed}
use Rattle.kr_tree.proofs.RemoveLemmas.{kept-removed, name_left, some_name}
use Rattle.kr_tree.proofs.tree.Tree.remove.Goals as goal

pub remove_name-requires : goal.remove_name-requires
remove_name-requires c =
    let t : Tree = record { inodes = c.self.inside.store; next = c.self.inside.next; names = c.self.inside.names; bytes = c.self.inside.bytes } in
    let There : Tree → Type 0 = λ t. entry t c.args.dir c.args.name.now ≡ Some c.in-Some.ino in
    let Empty : Tree → Type 0 = λ t. body_is is_filled t c.in-Some.ino ≡ false in
    let IfEmpty : Option ℕ → Type 0 = λ o. IfSome o (λ i. body_is is_filled c.args.self.now i ≡ false) in
    let view = sym c.self.view_is in
    let is = subst There view (sym c.in-Some.ensures) in
    let empty = subst Empty view (subst IfEmpty (sym c.in-Some.ensures) c.requires.empty) in
    let P : Inodes → Type 0 = λ m. 0 < option_map_or (λ (x : Inode). x.names) (map.get m c.in-Some.ino) 1 in
    subst P (sym c.remove_entry.ensures) (name_left t c.self.invariant c.args.dir c.args.name.now c.in-Some.ino is empty c.is_directory-is_dir.result)

pub overflow_sub-self : goal.overflow_sub-self
overflow_sub-self c =
    let t : Tree = record { inodes = c.self.inside.store; next = c.self.inside.next; names = c.self.inside.names; bytes = c.self.inside.bytes } in
    let There : Tree → Type 0 = λ t. entry t c.args.dir c.args.name.now ≡ Some c.in-Some.ino in
    some_name t c.self.invariant c.args.dir c.args.name.now c.in-Some.ino (subst There (sym c.self.view_is) (sym c.in-Some.ensures))

pub overflow_sub-self-in-Some : goal.overflow_sub-self-in-Some
overflow_sub-self-in-Some c =
    let t : Tree = record { inodes = c.self.inside.store; next = c.self.inside.next; names = c.self.inside.names; bytes = c.self.inside.bytes } in
    let There : Tree → Type 0 = λ t. entry t c.args.dir c.args.name.now ≡ Some c.in-Some.ino in
    let Empty : Tree → Type 0 = λ t. body_is is_filled t c.in-Some.ino ≡ false in
    let IfEmpty : Option ℕ → Type 0 = λ o. IfSome o (λ i. body_is is_filled c.args.self.now i ≡ false) in
    let view = sym c.self.view_is in
    let is = subst There view (sym c.in-Some.ensures) in
    let empty = subst Empty view (subst IfEmpty (sym c.in-Some.ensures) c.requires.empty) in
    (kept-removed t c.self.invariant c.args.dir c.args.name.now c.in-Some.ino is empty c.is_directory-is_dir.result (c.is_directory-is_dir.ensures ∙ ap (λ t. body_is is_directory t c.in-Some.ino) view)
    c.remove_name.new.self (c.remove_name.ensures ∙ ap (with_inode c.in-Some.ino unnamed) c.remove_entry.ensures)
    c.remove_if_unused-freed.new.self c.remove_if_unused-freed.ensures.inodes c.remove_if_unused-freed.result c.remove_if_unused-freed.ensures.bytes).1

pub invariant_of-self : goal.invariant_of-self
invariant_of-self c =
    let t : Tree = record { inodes = c.self.inside.store; next = c.self.inside.next; names = c.self.inside.names; bytes = c.self.inside.bytes } in
    let There : Tree → Type 0 = λ t. entry t c.args.dir c.args.name.now ≡ Some c.in-Some.ino in
    let Empty : Tree → Type 0 = λ t. body_is is_filled t c.in-Some.ino ≡ false in
    let IfEmpty : Option ℕ → Type 0 = λ o. IfSome o (λ i. body_is is_filled c.args.self.now i ≡ false) in
    let view = sym c.self.view_is in
    let is = subst There view (sym c.in-Some.ensures) in
    let empty = subst Empty view (subst IfEmpty (sym c.in-Some.ensures) c.requires.empty) in
    (kept-removed t c.self.invariant c.args.dir c.args.name.now c.in-Some.ino is empty c.is_directory-is_dir.result (c.is_directory-is_dir.ensures ∙ ap (λ t. body_is is_directory t c.in-Some.ino) view)
    c.remove_name.new.self (c.remove_name.ensures ∙ ap (with_inode c.in-Some.ino unnamed) c.remove_entry.ensures)
    c.remove_if_unused-freed.new.self c.remove_if_unused-freed.ensures.inodes c.remove_if_unused-freed.result c.remove_if_unused-freed.ensures.bytes).0
