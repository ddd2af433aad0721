use Rattle.std.specs.FinMap as map
use Rattle.std.proofs.Common.{◌≡◌, true, false, ◌∙◌, ap, sym, subst, ◌+◌, ◌<◌, ◌^◌, Some, None, arith, refl, nat_le}
use Rattle.std.specs.Prelude.{IfSome}
use Rattle.std.specs.Option.{option_map_or}
use Rattle.std.proofs.lemmas.Bool.Decides.{nat_tests}
use Rattle.kr_tree.specs.Tree.{Tree, Inode, entry, body_is, takes_names, may_be_linked}
use Rattle.kr_tree.specs.Changes.{with_inode, with_entry, with_names, count_limit}
use Rattle.kr_tree.proofs.InodesLemmas.{stays-names}
use Rattle.kr_tree.proofs.LinkLemmas.{kept-linked}
use Rattle.kr_tree.proofs.CountLemmas.{directories_few, names_few}
use Rattle.kr_tree.proofs.OfBytesLemmas.{known_bytes}
use Rattle.kr_tree.proofs.tree.Tree.link.Goals as goal

pub add_entry-requires-clause-directories : goal.add_entry-requires-clause-directories
add_entry-requires-clause-directories c =
    let t : Tree = record { inodes = c.self.inside.store; next = c.self.inside.next; names = c.self.inside.names; bytes = c.self.inside.bytes } in
    elim (map.get c.self.inside.store c.args.dir) as (λ o. map.get c.self.inside.store c.args.dir ≡ o → IfSome o (λ x. x.directories + 1 < 2 ^ 32)) [
      | None ↦ λ _. tt
      | Some x ↦ λ h. let few = directories_few t c.self.invariant.sound c.self.invariant.counted c.args.dir x h in omega arith
    ] refl

pub add_name-requires : goal.add_name-requires
add_name-requires c =
    let t : Tree = record { inodes = c.self.inside.store; next = c.self.inside.next; names = c.self.inside.names; bytes = c.self.inside.bytes } in
    let few = names_few t c.self.invariant.sound c.self.invariant.counted c.args.file in
    let same : option_map_or (λ (x : Inode). x.names) (map.get c.add_entry.new.self c.args.file) 0 ≡ option_map_or (λ (x : Inode). x.names) (map.get t.inodes c.args.file) 0 =
    ap (λ m. option_map_or (λ (x : Inode). x.names) (map.get m c.args.file) 0) c.in_ok-add_entry.ensures.ok ∙ stays-names t.inodes c.args.dir (with_entry c.in_ok-name.name.items c.args.file false) c.args.file (λ _. refl) in
    omega arith

pub invariant_of-self-2 : goal.invariant_of-self-2
invariant_of-self-2 c =
    let t : Tree = record { inodes = c.self.inside.store; next = c.self.inside.next; names = c.self.inside.names; bytes = c.self.inside.bytes } in
    let Takes : Tree → Type 0 = λ t. body_is takes_names t c.args.dir ≡ true in
    let Free : Tree → Type 0 = λ t. entry t c.args.dir c.args.name.now ≡ None in
    let Leaf : Tree → Type 0 = λ t. body_is may_be_linked t c.args.file ≡ true in
    let view = sym c.self.view_is in
    let room : nat_le count_limit t.names ≡ false = grind (arith, nat_tests) in
    kept-linked t c.self.invariant c.args.dir c.args.name.now c.args.file
    (subst Takes view c.requires.directory) c.requires.well_formed (subst Free view c.requires.free) (subst Leaf view c.requires.file) room (known_bytes c.args.name.now c.type_inv.name)
    c.add_name.new.self
    (c.add_name.ensures
    ∙ ap (with_inode c.args.file (with_names (λ n. n + 1))) (c.in_ok-add_entry.ensures.ok ∙ ap (λ n. with_inode c.args.dir (with_entry n c.args.file false) c.self.inside.store) c.in_ok-name.ensures))
