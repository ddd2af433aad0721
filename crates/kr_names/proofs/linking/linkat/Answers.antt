use Rattle.std.proofs.Common.{◌+◌, ◌<◌, ◌^◌, refl, sym, ap, subst, ◌∙◌, not, lit<}
use Rattle.std.specs.Bool.{if◌then◌else◌}
use Rattle.std.specs.Option.{option_map_or}
use Rattle.kr_seen.specs.pr_base.declared.errno.Errno.TheVariants.{ENOENT, EEXIST, EXDEV}
use Rattle.kr_seen.specs.kr_tree.Changes.{next_serial}
use Rattle.kr_seen.specs.kr_tree.declared.place.Host.{Host}
use Rattle.kr_seen.specs.kr_model.Known.{known}
use Rattle.kr_seen.specs.kr_model.NameRows.{link_host, linkat_row}
use Rattle.kr_seen.specs.kr_model.Operation.{linked as if_linked}
use Rattle.kr_seen.specs.kr_model.Reply.{refuse}
use Rattle.kr_seen.specs.kr_model.Seen.{WalkFails}
use Rattle.kr_seen.specs.kr_model.State.{image_layout, inode_of}
use Rattle.kr_seen.specs.kr_ops.Meaning.{meaning}
use Rattle.kr_seen.specs.Numbered.{state_numbered}
use Rattle.kr_seen.specs.Placed.{target_mounts}
use Rattle.kr_seen.specs.Told.{linked_told, looked_told, made_told}
use Rattle.kr_seen.proofs.CarryLemmas.{by-refusal}
use Rattle.kr_names.proofs.LinkLemmas.{linked-made, linked-object}
use Rattle.kr_names.proofs.MadeLemmas.{made-dir, made-free}
use Rattle.kr_names.proofs.RowLemmas.{by-row}
use Rattle.kr_names.proofs.linking.linkat.Goals as goal

pub returns-in_default-clause-performs : goal.returns-in_default-clause-performs
returns-in_default-clause-performs g c = λ some.
    let s = state_numbered g.P.Places.number (meaning c.args.state.now) in
    let k = known image_layout c.args.pid (meaning c.args.state.now) in
    let mounts = target_mounts c.args.old.now in
    by-refusal mounts c.args.pid _ c.args.state.now _ c.refused.result c.requires.sound.pids ENOENT
    (ap (λ x. if_linked x k) (sym (ap (λ r. option_map_or linked_told r (WalkFails ENOENT)) (sym (c.in_default.is)) ∙ c.linked.ensures c.args.pid))) c.refused.ensures refl

pub returns-in-NoName-clause-performs : goal.returns-in-NoName-clause-performs
returns-in-NoName-clause-performs g c = λ some.
    let s = state_numbered g.P.Places.number (meaning c.args.state.now) in
    let k = known image_layout c.args.pid (meaning c.args.state.now) in
    let mounts = target_mounts c.args.old.now in
    by-refusal mounts c.args.pid _ c.args.state.now _ c.refused-in-NoName.result c.requires.sound.pids EEXIST
    (ap (λ x. if_linked x k) (sym (ap (λ r. option_map_or linked_told r (WalkFails ENOENT)) (sym (c.in-Some.is)) ∙ c.linked.ensures c.args.pid)) ∙ ap (λ m. linkat_row k (looked_told c.in-Some.linked.old) (made_told m) c.in-Some.linked.same_mount) c.in-NoName.is) c.refused-in-NoName.ensures refl

pub returns-in-Over-clause-performs : goal.returns-in-Over-clause-performs
returns-in-Over-clause-performs g c = λ some.
    let s = state_numbered g.P.Places.number (meaning c.args.state.now) in
    let k = known image_layout c.args.pid (meaning c.args.state.now) in
    let mounts = target_mounts c.args.old.now in
    by-refusal mounts c.args.pid _ c.args.state.now _ c.refused-in-Over.result c.requires.sound.pids EEXIST
    (ap (λ x. if_linked x k) (sym (ap (λ r. option_map_or linked_told r (WalkFails ENOENT)) (sym (c.in-Some.is)) ∙ c.linked.ensures c.args.pid)) ∙ ap (λ m. linkat_row k (looked_told c.in-Some.linked.old) (made_told m) c.in-Some.linked.same_mount) c.in-Over.is) c.refused-in-Over.ensures refl

pub returns-then-slash-clause-performs : goal.returns-then-slash-clause-performs
returns-then-slash-clause-performs g c = λ some.
    let s = state_numbered g.P.Places.number (meaning c.args.state.now) in
    let k = known image_layout c.args.pid (meaning c.args.state.now) in
    let mounts = target_mounts c.args.old.now in
    by-refusal mounts c.args.pid _ c.args.state.now _ c.refused-then-slash.result c.requires.sound.pids ENOENT
    (ap (λ x. if_linked x k) (sym (ap (λ r. option_map_or linked_told r (WalkFails ENOENT)) (sym (c.in-Some.is)) ∙ c.linked.ensures c.args.pid)) ∙ ap (λ m. linkat_row k (looked_told c.in-Some.linked.old) (made_told m) c.in-Some.linked.same_mount) c.in-Makes.is ∙ ap (λ b. if b then refuse ENOENT else if not c.in-Some.linked.same_mount then refuse EXDEV else link_host k c.in-Some.linked.old.host c.in-Makes.dir c.in-Makes.name.now) c.if-slash.true) c.refused-then-slash.ensures refl

pub returns-then-not-linked-clause-performs : goal.returns-then-not-linked-clause-performs
returns-then-not-linked-clause-performs g c = λ some.
    let s = state_numbered g.P.Places.number (meaning c.args.state.now) in
    let k = known image_layout c.args.pid (meaning c.args.state.now) in
    let mounts = target_mounts c.args.old.now in
    by-refusal mounts c.args.pid _ c.args.state.now _ c.refused-then-not-linked.result c.requires.sound.pids EXDEV
    (ap (λ x. if_linked x k) (sym (ap (λ r. option_map_or linked_told r (WalkFails ENOENT)) (sym (c.in-Some.is)) ∙ c.linked.ensures c.args.pid)) ∙ ap (λ m. linkat_row k (looked_told c.in-Some.linked.old) (made_told m) c.in-Some.linked.same_mount) c.in-Makes.is ∙ ap (λ b. if b then refuse ENOENT else if not c.in-Some.linked.same_mount then refuse EXDEV else link_host k c.in-Some.linked.old.host c.in-Makes.dir c.in-Makes.name.now) c.if-slash.false ∙ ap (λ b. if not b then refuse EXDEV else link_host k c.in-Some.linked.old.host c.in-Makes.dir c.in-Makes.name.now) c.if-not-linked.true) c.refused-then-not-linked.ensures refl

pub returns-else-not-linked-clause-performs : goal.returns-else-not-linked-clause-performs
returns-else-not-linked-clause-performs g c = λ some.
    let s = state_numbered g.P.Places.number (meaning c.args.state.now) in
    let k = known image_layout c.args.pid (meaning c.args.state.now) in
    let mounts = target_mounts c.args.old.now in
    by-row mounts c.args.pid _ (λ k. link_host k c.in-Some.linked.old.host c.in-Makes.dir c.in-Makes.name.now) c.args.state.now c.link_host.new.state c.link_host.result
    (ap (λ x. if_linked x k) (sym (ap (λ r. option_map_or linked_told r (WalkFails ENOENT)) (sym (c.in-Some.is)) ∙ c.linked.ensures c.args.pid)) ∙ ap (λ m. linkat_row k (looked_told c.in-Some.linked.old) (made_told m) c.in-Some.linked.same_mount) c.in-Makes.is ∙ ap (λ b. if b then refuse ENOENT else if not c.in-Some.linked.same_mount then refuse EXDEV else link_host k c.in-Some.linked.old.host c.in-Makes.dir c.in-Makes.name.now) c.if-slash.false ∙ ap (λ b. if not b then refuse EXDEV else link_host k c.in-Some.linked.old.host c.in-Makes.dir c.in-Makes.name.now) c.if-not-linked.false) (c.link_host.ensures.performs mounts some)

pub link_host-requires : goal.link_host-requires
link_host-requires g c =
    let s = state_numbered g.P.Places.number (meaning c.args.state.now) in
    let table = g.P.Places.mounts c.args.places.now in
    let told = ap (λ r. option_map_or linked_told r (WalkFails ENOENT)) (sym (c.in-Some.is)) ∙ c.linked.ensures c.args.pid in
    let made = sym (ap made_told c.in-Makes.is) ∙ linked-made g.P.Places.number table c.args.pid s c.args.old.now c.args.new.now (looked_told c.in-Some.linked.old) (made_told c.in-Some.linked.new) c.in-Some.linked.same_mount told in
    let P : Host → Type 0 = λ h. next_serial c.args.state.now.tree (inode_of h) + 1 < 2 ^ 64 in (
      lit< tt,
      (
        c.requires.sound,
        (
          linked-object g.P.Places.number table c.args.pid s c.args.old.now c.args.new.now (looked_told c.in-Some.linked.old) (made_told c.in-Some.linked.new) c.in-Some.linked.same_mount told c.args.state.now.tree c.requires.found,
          (
            made-free g.P.Places.number table c.args.pid s c.args.new.now c.in-Makes.dir c.in-Makes.name.now c.in-Makes.slash made c.args.state.now.tree c.requires.free,
            subst P (sym (made-dir g.P.Places.number table c.args.pid s c.args.new.now c.in-Makes.dir c.in-Makes.name.now c.in-Makes.slash made)) c.requires.serials,
          ),
        ),
      ),
    )
