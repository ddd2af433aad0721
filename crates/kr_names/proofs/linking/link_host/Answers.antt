use Rattle.std.proofs.Common.{◌+◌, ◌<◌, ◌^◌, refl, sym, ap, subst, ◌∙◌, [], ◌∷◌, Err, lit<}
use Rattle.kr_seen.specs.pr_base.declared.errno.Errno.TheVariants.{EPERM, ENOSPC}
use Rattle.kr_seen.specs.kr_tree.Tree.{is_directory}
use Rattle.kr_seen.specs.kr_tree.declared.place.Host.{Host}
use Rattle.kr_seen.specs.kr_tree.Changes.{next_serial}
use Rattle.kr_seen.specs.kr_view.InTree.{IsObjectOf}
use Rattle.kr_seen.specs.kr_model.Change.{LinkNode}
use Rattle.kr_seen.specs.kr_model.Known.{known}
use Rattle.kr_seen.specs.kr_model.NameRows.{link_host}
use Rattle.kr_seen.specs.kr_model.Reply.{answers}
use Rattle.kr_seen.specs.kr_model.State.{image_layout, inode_of}
use Rattle.kr_seen.specs.kr_ops.Meaning.{meaning}
use Rattle.kr_seen.proofs.CarryLemmas.{by-refusal, by-reply}
use Rattle.kr_names.proofs.LinkLemmas.{directory-unlinked, linkable, links-full, links-goes, links-in, whether}
use Rattle.kr_names.proofs.NodeLemmas.{known-body}
use Rattle.kr_names.proofs.RoomLemmas.{ok-no-error}
use Rattle.kr_names.proofs.linking.link_host.Goals as goal

pub returns-in-Proc-clause-performs : goal.returns-in-Proc-clause-performs
returns-in-Proc-clause-performs g c = λ mounts some.
    let s = meaning c.args.state.now in
    let k = known image_layout c.args.pid s in
    by-refusal mounts c.args.pid _ c.args.state.now _ c.refused.result c.requires.sound.pids EPERM
    (ap (λ h. link_host k h c.args.dir c.args.name.now) c.in-Proc.is) c.refused.ensures refl

pub returns-then-is_directory-clause-performs : goal.returns-then-is_directory-clause-performs
returns-then-is_directory-clause-performs g c = λ mounts some.
    let s = meaning c.args.state.now in
    let k = known image_layout c.args.pid s in
    by-refusal mounts c.args.pid _ c.args.state.now _ c.refused-then-is_directory.result c.requires.sound.pids EPERM
    (ap (λ h. link_host k h c.args.dir c.args.name.now) c.in-Node.is ∙ directory-unlinked k c.in-Node.ino c.args.dir c.args.name.now (known-body c.args.pid s is_directory c.in-Node.ino ∙ sym c.is_directory.ensures ∙ c.if-is_directory.true)) c.refused-then-is_directory.ensures refl

pub returns-in-Err-clause-performs : goal.returns-in-Err-clause-performs
returns-in-Err-clause-performs g c = λ mounts some.
    let s = meaning c.args.state.now in
    let k = known image_layout c.args.pid s in
    by-refusal mounts c.args.pid _ c.args.state.now _ c.refused-in-Err.result c.requires.sound.pids c.in-Err.errno
    (ap (λ h. link_host k h c.args.dir c.args.name.now) c.in-Node.is ∙ links-in k c.in-Node.ino c.args.dir c.args.name.now (known-body c.args.pid s is_directory c.in-Node.ino ∙ sym c.is_directory.ensures ∙ c.if-is_directory.false) ∙ c.in-Err.ensures.row c.args.pid _) c.refused-in-Err.ensures refl

pub returns-in-Ok-link_node-clause-performs : goal.returns-in-Ok-link_node-clause-performs
returns-in-Ok-link_node-clause-performs g c = λ mounts some.
    let s = meaning c.args.state.now in
    let k = known image_layout c.args.pid s in
    by-reply mounts c.args.pid _ c.args.state.now c.link_node.new.state c.number.result c.requires.sound.pids (answers 0 (LinkNode c.in-Ok.dir c.args.name.now c.in-Node.ino ∷ []))
    (ap (λ h. link_host k h c.args.dir c.args.name.now) c.in-Node.is ∙ links-goes k c.in-Node.ino c.args.dir c.args.name.now c.in-Ok.dir (c.in-Ok.ensures.row c.args.pid) (known-body c.args.pid s is_directory c.in-Node.ino ∙ sym c.is_directory.ensures ∙ c.if-is_directory.false)
    (whether _ _ c.link_node.ensures.full (λ e. ok-no-error _ _ (sym c.in-Ok-link_node.is ∙ e))))
    c.number.ensures (c.in-Ok-link_node.ensures.ok c.args.pid mounts)

pub returns-in-Err-Full-clause-performs : goal.returns-in-Err-Full-clause-performs
returns-in-Err-Full-clause-performs g c = λ mounts some.
    let s = meaning c.args.state.now in
    let k = known image_layout c.args.pid s in
    by-refusal mounts c.args.pid _ c.args.state.now c.link_node.new.state c.refused-in-Err-Full.result c.requires.sound.pids ENOSPC
    (ap (λ h. link_host k h c.args.dir c.args.name.now) c.in-Node.is ∙ links-full k c.in-Node.ino c.args.dir c.args.name.now c.in-Ok.dir (c.in-Ok.ensures.row c.args.pid) (known-body c.args.pid s is_directory c.in-Node.ino ∙ sym c.is_directory.ensures ∙ c.if-is_directory.false)
    (c.link_node.ensures.full.0 (c.in-Err-Full.is ∙ ap (λ e. Err e) c.in-Err-Full.field-0-is)))
    c.refused-in-Err-Full.ensures c.in-Err-Full.ensures.err

pub link_node-requires : goal.link_node-requires
link_node-requires g c =
    let P : Host → Type 0 = λ h. IsObjectOf c.args.state.now.tree h in
    let Q : Host → Type 0 = λ h. next_serial c.args.state.now.tree (inode_of h) + 1 < 2 ^ 64 in
    let at = (c.in-Ok.ensures.row c.args.pid).host in
    let free = c.requires.free c.in-Ok.dir at c.in-Ok.ensures.takes.1 in (
      lit< tt,
      (
        c.in-Ok.ensures.takes.1,
        (
          free.0,
          (
            free.1,
            (subst Q at c.requires.serials, linkable c.args.state.now.tree c.in-Node.ino (subst P c.in-Node.is c.requires.object) (sym c.is_directory.ensures ∙ c.if-is_directory.false)),
          ),
        ),
      ),
    )
