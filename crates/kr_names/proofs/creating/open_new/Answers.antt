use Rattle.std.proofs.Common.{◌≡◌, ℕ, ◌+◌, ◌<◌, ◌^◌, length, refl, sym, ap, subst, ◌∙◌, false, [], ◌∷◌, None, Err, lit<}
use Rattle.std.specs.Prelude.{IsTrue, IsSome, IfSome}
use Rattle.kr_seen.specs.pr_base.declared.errno.Errno.TheVariants.{EMFILE, ENOSPC}
use Rattle.kr_seen.specs.kr_calls.Arguments.{has}
use Rattle.kr_seen.specs.kr_tree.Changes.{is_too_big}
use Rattle.kr_seen.specs.kr_tree.Tree.{RegularFile, inode}
use Rattle.kr_seen.specs.kr_tree.declared.place.Host.TheVariants as host
use Rattle.kr_seen.specs.kr_files.Opened.{is_no_end}
use Rattle.kr_seen.specs.kr_files.declared.opened.Opened.{Opened}
use Rattle.kr_seen.specs.kr_files.declared.opened.What.TheVariants.{File}
use Rattle.kr_seen.specs.kr_model.Applied.{Mounts, applied, images, in_mount}
use Rattle.kr_seen.specs.kr_model.Asking.{has_no_room, unmasked}
use Rattle.kr_seen.specs.kr_model.Change.{AddNode, OfDirectory, OpenFile}
use Rattle.kr_seen.specs.kr_model.DescriptorRows.{o_cloexec}
use Rattle.kr_seen.specs.kr_model.FileRows.{opens_as}
use Rattle.kr_seen.specs.kr_model.Known.{known}
use Rattle.kr_seen.specs.kr_model.Reply.{answers}
use Rattle.kr_seen.specs.kr_model.State.{image_layout, inode_of}
use Rattle.kr_seen.specs.kr_ops.Meaning.{meaning}
use Rattle.kr_seen.proofs.CarryLemmas.{by-refusal, by-reply}
use Rattle.kr_names.proofs.CreateLemmas.{made-files, made-lives, made-lowest, made-sound, made-there, new-crowded, new-full, new-opens}
use Rattle.kr_names.proofs.OpenLemmas.{opened-makes}
use Rattle.kr_names.proofs.RoomLemmas.{has-room, is-full, ok-no-error}
use Rattle.kr_names.proofs.creating.open_new.Goals as goal

pub returns-in-Err-clause-performs : goal.returns-in-Err-clause-performs
returns-in-Err-clause-performs g c = λ mounts at some.
    by-refusal mounts c.args.pid _ c.args.state.now _ c.refused.result c.requires.caller.sound.pids c.in-Err.errno (c.in-Err.ensures.row c.args.pid _) c.refused.ensures refl

pub returns-in_default-clause-performs : goal.returns-in_default-clause-performs
returns-in_default-clause-performs g c = λ mounts at some.
    let s = meaning c.args.state.now in
    let k = known image_layout c.args.pid s in
    by-refusal mounts c.args.pid _ c.args.state.now _ c.refused-in_default.result c.requires.caller.sound.pids EMFILE
    (new-full s c.args.pid c.args.flags c.args.mode c.requires.caller.lives c.args.dir c.args.name.now c.in-Ok.dir (c.in-Ok.ensures.row c.args.pid) (sym c.lowest_free.ensures ∙ c.in_default.is)) c.refused-in_default.ensures refl

pub returns-in-Err-Full-clause-performs : goal.returns-in-Err-Full-clause-performs
returns-in-Err-Full-clause-performs g c = λ mounts at some.
    let s = meaning c.args.state.now in
    let k = known image_layout c.args.pid s in
    let full = ap (λ b. has_no_room (length b) k) (sym c.new.ensures)
    ∙ is-full _ _ _ (ap (λ b. is_too_big (RegularFile b)) c.new.ensures) c.add_node.ensures.full (c.in-Err-Full.is ∙ ap (λ e. Err e) c.in-Err-Full.field-0-is) in
    by-refusal mounts c.args.pid _ c.args.state.now c.add_node.new.self c.refused-in-Err-Full.result c.requires.caller.sound.pids ENOSPC
    (new-crowded s c.args.pid c.args.flags c.args.mode c.requires.caller.lives c.args.dir c.args.name.now c.in-Ok.dir (c.in-Ok.ensures.row c.args.pid) c.in-Some._fd (sym c.in-Some.ensures) full)
    c.refused-in-Err-Full.ensures c.in-Err-Full.ensures.err

pub open-requires : goal.open-requires
open-requires g c =
    let made : (mounts : Mounts g.row.T.Denot) → meaning c.add_node.new.self ≡ applied images mounts c.args.pid (AddNode c.in-Ok.dir c.args.name.now c.unmasked.result c.args.state.now.user.uid c.args.state.now.user.gid (RegularFile [])) (meaning c.args.state.now) =
    λ mounts. c.in-Ok-add_node.ensures.ok c.args.pid mounts
    ∙ ap (λ b. applied images mounts c.args.pid (AddNode c.in-Ok.dir c.args.name.now c.unmasked.result c.args.state.now.user.uid c.args.state.now.user.gid (RegularFile b)) (meaning c.args.state.now)) c.new.ensures in
    let room : has_no_room 0 (known image_layout c.args.pid (meaning c.args.state.now)) ≡ false =
    ap (λ b. has_no_room (length b) (known image_layout c.args.pid (meaning c.args.state.now))) (sym c.new.ensures)
    ∙ has-room _ _ _ (ap (λ b. is_too_big (RegularFile b)) c.new.ensures) c.add_node.ensures.full (λ e. ok-no-error _ _ (sym c.in-Ok-add_node.is ∙ e)) in
    let free = c.requires.free c.in-Ok.dir (c.in-Ok.ensures.row c.args.pid).host c.in-Ok.ensures.takes.1 in
    let none : Mounts g.row.T.Denot = record { found = None; directory = None } in
    let P : Opened g.row.T.Denot → Type 0 = λ o. IsTrue (is_no_end o.what) in
    let Q : Opened g.row.T.Denot → Type 0 = λ o. IfSome o.place (λ p. IsSome (inode c.add_node.new.self.tree (inode_of p.host))) in
    let R : ℕ → Type 0 = λ n. n + 1 < 2 ^ 64 in
    let S : ℕ → Type 0 = λ n. IsSome (inode c.add_node.new.self.tree n) in (
      lit< tt,
      (
        record {
          sound = made-sound none c.args.pid c.in-Ok.dir c.args.name.now c.unmasked.result c.args.state.now.user.uid c.args.state.now.user.gid c.args.state.now c.add_node.new.self (made none) c.requires.view (c.add_node.ensures.served c.requires.caller.sound.served) c.requires.caller.lives
              c.in-Ok.ensures.takes.1 free.0 free.1 c.are_bytes.ensures c.unmasked.ensures.small room;
          lives = made-lives none c.args.pid c.in-Ok.dir c.args.name.now c.unmasked.result c.args.state.now.user.uid c.args.state.now.user.gid c.args.state.now c.add_node.new.self (made none) c.requires.caller.lives;
        },
        (
          subst P (sym c.opened_as-opened.ensures) refl,
          (
            subst R (sym (made-files none c.args.pid c.in-Ok.dir c.args.name.now c.unmasked.result c.args.state.now.user.uid c.args.state.now.user.gid c.args.state.now c.add_node.new.self (made none))) c.requires.files,
            subst Q (sym c.opened_as-opened.ensures)
                (subst S (sym c.in-Ok-add_node.ensures.number) (made-there none c.args.pid c.in-Ok.dir c.args.name.now c.unmasked.result c.args.state.now.user.uid c.args.state.now.user.gid c.args.state.now c.add_node.new.self (made none))),
          ),
        ),
      ),
    )

pub unreachable-requires-in-Err-Full-open : goal.unreachable-requires-in-Err-Full-open
unreachable-requires-in-Err-Full-open g c =
    let made : (mounts : Mounts g.row.T.Denot) → meaning c.add_node.new.self ≡ applied images mounts c.args.pid (AddNode c.in-Ok.dir c.args.name.now c.unmasked.result c.args.state.now.user.uid c.args.state.now.user.gid (RegularFile [])) (meaning c.args.state.now) =
    λ mounts. c.in-Ok-add_node.ensures.ok c.args.pid mounts
    ∙ ap (λ b. applied images mounts c.args.pid (AddNode c.in-Ok.dir c.args.name.now c.unmasked.result c.args.state.now.user.uid c.args.state.now.user.gid (RegularFile b)) (meaning c.args.state.now)) c.new.ensures in
    let none : Mounts g.row.T.Denot = record { found = None; directory = None } in
    let same = made-lowest none c.args.pid c.in-Ok.dir c.args.name.now c.unmasked.result c.args.state.now.user.uid c.args.state.now.user.gid c.args.state.now c.add_node.new.self (made none) in
    let gone = c.open.ensures.full.0 (c.in-Err-Full-open.is ∙ ap (λ e. Err e) c.in-Err-Full-open.field-0-is) in
    let there = c.in-Some.ensures in
    cc

pub returns-in-Ok-open-clause-performs : goal.returns-in-Ok-open-clause-performs
returns-in-Ok-open-clause-performs g c = λ mounts at some.
    let s = meaning c.args.state.now in
    let k = known image_layout c.args.pid s in
    let made : (mounts : Mounts g.row.T.Denot) → meaning c.add_node.new.self ≡ applied images mounts c.args.pid (AddNode c.in-Ok.dir c.args.name.now c.unmasked.result c.args.state.now.user.uid c.args.state.now.user.gid (RegularFile [])) (meaning c.args.state.now) =
    λ mounts. c.in-Ok-add_node.ensures.ok c.args.pid mounts
    ∙ ap (λ b. applied images mounts c.args.pid (AddNode c.in-Ok.dir c.args.name.now c.unmasked.result c.args.state.now.user.uid c.args.state.now.user.gid (RegularFile b)) (meaning c.args.state.now)) c.new.ensures in
    let room : has_no_room 0 (known image_layout c.args.pid (meaning c.args.state.now)) ≡ false =
    ap (λ b. has_no_room (length b) (known image_layout c.args.pid (meaning c.args.state.now))) (sym c.new.ensures)
    ∙ has-room _ _ _ (ap (λ b. is_too_big (RegularFile b)) c.new.ensures) c.add_node.ensures.full (λ e. ok-no-error _ _ (sym c.in-Ok-add_node.is ∙ e)) in
    let o = opens_as File (host.Node c.args.state.now.tree.next) c.in-Ok.dir c.args.name.now c.args.flags in
    let is : in_mount c.args.mount (opens_as File (host.Node c.args.state.now.tree.next) c.in-Ok.dir c.args.name.now c.args.flags) ≡ c.opened_as-opened.result =
    sym (c.opened_as-opened.ensures ∙ ap (λ i. in_mount c.args.mount (opens_as File (host.Node i) c.in-Ok.dir c.in-Ok-copy.remembered c.args.flags)) c.in-Ok-add_node.ensures.number
    ∙ ap (λ n. in_mount c.args.mount (opens_as File (host.Node c.args.state.now.tree.next) c.in-Ok.dir n c.args.flags)) c.in-Ok-copy.ensures) in
    let add = λ (m : ℕ). AddNode c.in-Ok.dir c.args.name.now m c.args.state.now.user.uid c.args.state.now.user.gid (RegularFile []) in
    let open_ = OpenFile c.in-Ok-open.fd (has c.args.flags o_cloexec) OfDirectory o in
    let same = made-lowest mounts c.args.pid c.in-Ok.dir c.args.name.now c.unmasked.result c.args.state.now.user.uid c.args.state.now.user.gid c.args.state.now c.add_node.new.self (made mounts) in
    by-reply mounts c.args.pid _ c.args.state.now c.open.new.self c.number.result c.requires.caller.sound.pids (answers c.in-Ok-open.fd (add (unmasked k c.args.mode) ∷ open_ ∷ []))
    (new-opens s c.args.pid c.args.flags c.args.mode c.requires.caller.lives c.args.dir c.args.name.now c.in-Ok.dir (c.in-Ok.ensures.row c.args.pid) c.in-Ok-open.fd (sym same ∙ c.in-Ok-open.ensures.lowest) room)
    c.number.ensures
    (opened-makes mounts c.args.pid c.args.flags c.in-Ok-open.fd OfDirectory c.args.mount o _ _ c.add_node.new.self c.open.new.self c.closes_on_exec.ensures at is c.in-Ok-open.ensures.makes
    ∙ ap (applied images mounts c.args.pid open_) (made mounts ∙ ap (λ m. applied images mounts c.args.pid (add m) (meaning c.args.state.now)) c.unmasked.ensures.bits))
