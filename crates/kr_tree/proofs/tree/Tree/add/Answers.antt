use Rattle.std.specs.FinMap as map
use Rattle.std.proofs.Common.{◌≡◌, true, false, ◌∙◌, ap, sym, subst, ◌+◌, ◌<◌, ◌^◌, Some, None, arith, refl}
use Rattle.std.specs.Prelude.{IfSome}
use Rattle.kr_tree.specs.Tree.{Tree, entry, body_is, takes_names, is_directory}
use Rattle.kr_tree.specs.Changes.{with_inode, with_entry, with_standing, fresh, has_no_room, next_serial}
use Rattle.kr_inode.specs.Stored.{body_of_new}
use Rattle.kr_inode.proofs.BodyLemmas.{entries-new}
use Rattle.kr_tree.proofs.AddLemmas.{kept-added}
use Rattle.kr_tree.proofs.CountLemmas.{directories_few}
use Rattle.kr_tree.proofs.OfBytesLemmas.{known_bytes}
use Rattle.kr_tree.proofs.tree.Tree.add.Goals as goal

pub put-requires-clause-directories : goal.put-requires-clause-directories
put-requires-clause-directories c =
    let t : Tree = record { inodes = c.self.inside.store; next = c.self.inside.next; names = c.self.inside.names; bytes = c.self.inside.bytes } in
    elim (map.get c.self.inside.store c.args.dir) as (λ o. map.get c.self.inside.store c.args.dir ≡ o → IfSome o (λ x. x.directories + 1 < 2 ^ 32)) [
      | None ↦ λ _. tt
      | Some x ↦ λ h. let few = directories_few t c.self.invariant.sound c.self.invariant.counted c.args.dir x h in omega arith
    ] refl

pub put-requires-clause-new : goal.put-requires-clause-new
put-requires-clause-new c =
    elim (map.get c.self.inside.store c.self.inside.next) as (λ o. map.get c.self.inside.store c.self.inside.next ≡ o → o ≡ None) [
      | None ↦ λ _. refl
      | Some x ↦ λ h. let below = (c.self.invariant.sound.numbered c.self.inside.next x h).1 in absurd (omega arith)
    ] refl

pub invariant_of-self-2 : goal.invariant_of-self-2
invariant_of-self-2 c =
    let t : Tree = record { inodes = c.self.inside.store; next = c.self.inside.next; names = c.self.inside.names; bytes = c.self.inside.bytes } in
    let Takes : Tree → Type 0 = λ t. body_is takes_names t c.args.dir ≡ true in
    let Free : Tree → Type 0 = λ t. entry t c.args.dir c.args.name.now ≡ None in
    let Room : Tree → Type 0 = λ t. has_no_room c.size-size.result t ≡ false in
    let view = sym c.self.view_is in
    kept-added t c.self.invariant c.args.dir c.args.name.now c.args.meta.mode c.args.meta.uid c.args.meta.gid (body_of_new c.args.node)
    (subst Takes view c.requires.directory) c.requires.well_formed (subst Free view c.requires.free) (entries-new c.args.node)
    (sym c.is_too_big.ensures ∙ c.if-is_too_big.false) c.size-size.result c.size-size.ensures (subst Room view (sym c.has_no_room.ensures ∙ c.if-has_no_room.false)) (known_bytes c.args.name.now c.type_inv.name) c.is_of_bytes.ensures
    c.put.new.self
    (c.in_ok-put.ensures.ok
    ∙ ap (λ n. map.insert (with_inode c.args.dir (with_entry n c.self.inside.next c.is_directory-is_dir.result) c.self.inside.store) c.self.inside.next c.new-inode.result) c.in_ok-name.ensures
    ∙ ap (λ b. map.insert (with_inode c.args.dir (with_entry c.args.name.now c.self.inside.next b) c.self.inside.store) c.self.inside.next c.new-inode.result) c.is_directory-is_dir.ensures
    ∙ ap (map.insert (with_inode c.args.dir (with_entry c.args.name.now c.self.inside.next (is_directory (body_of_new c.args.node))) c.self.inside.store) c.self.inside.next)
    (c.new-inode.ensures ∙ ap (λ n. fresh c.args.meta.mode c.args.meta.uid c.args.meta.gid (with_standing (Some (record { inode = c.args.dir; serial = n })) (body_of_new c.args.node))) (c.next_serial.ensures ∙ ap (λ t. next_serial t c.args.dir) view)))
