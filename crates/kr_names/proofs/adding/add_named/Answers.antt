use Rattle.std.proofs.Common.{[], ◌∷◌, refl, sym, ap, ◌∙◌, Err}
use Rattle.std.specs.Bool.{if◌then◌else◌}
use Rattle.kr_seen.specs.pr_base.declared.errno.Errno.TheVariants.{ENOSPC}
use Rattle.kr_seen.specs.kr_inode.Stored.{body_of_new}
use Rattle.kr_seen.specs.kr_model.Change.{AddNode}
use Rattle.kr_seen.specs.kr_model.Reply.{answers, done, refuse}
use Rattle.kr_names.proofs.RoomLemmas.{is-full, has-room, ok-no-error}
use Rattle.kr_seen.proofs.CarryLemmas.{by-refusal, by-reply}
use Rattle.kr_names.proofs.adding.add_named.Goals as goal

pub returns-in-Err-clause-performs : goal.returns-in-Err-clause-performs
returns-in-Err-clause-performs g c = λ mounts some.
    by-refusal mounts c.args.pid _ c.args.state.now c.args.state.now c.refused.result c.requires.sound.pids c.in-Err.errno (c.in-Err.ensures.row c.args.pid _) c.refused.ensures refl

pub returns-in-Ok-add_node-clause-performs : goal.returns-in-Ok-add_node-clause-performs
returns-in-Ok-add_node-clause-performs g c = λ mounts some.
    let body = body_of_new c.args.node in
    let change = AddNode c.in-Ok.ino c.args.name.now c.args.mode c.args.state.now.user.uid c.args.state.now.user.gid body in
    by-reply mounts c.args.pid _ c.args.state.now c.add_node.new.self c.number.result c.requires.sound.pids (answers 0 (change ∷ []))
    ((c.in-Ok.ensures.row c.args.pid).goes_on _ ∙ ap (λ b. if b then refuse ENOSPC else done 0 (change ∷ [])) (has-room _ _ _ c.requires.small c.add_node.ensures.full (λ e. ok-no-error _ _ (sym c.in-Ok-add_node.is ∙ e))))
    c.number.ensures (c.in-Ok-add_node.ensures.ok c.args.pid mounts)

pub returns-in-Err-Full-clause-performs : goal.returns-in-Err-Full-clause-performs
returns-in-Err-Full-clause-performs g c = λ mounts some.
    let body = body_of_new c.args.node in
    let change = AddNode c.in-Ok.ino c.args.name.now c.args.mode c.args.state.now.user.uid c.args.state.now.user.gid body in
    by-refusal mounts c.args.pid _ c.args.state.now c.add_node.new.self c.refused-in-Err-Full.result c.requires.sound.pids ENOSPC
    ((c.in-Ok.ensures.row c.args.pid).goes_on _ ∙ ap (λ b. if b then refuse ENOSPC else done 0 (change ∷ [])) (is-full _ _ _ c.requires.small c.add_node.ensures.full (c.in-Err-Full.is ∙ ap (λ e. Err e) c.in-Err-Full.field-0-is)))
    c.refused-in-Err-Full.ensures c.in-Err-Full.ensures.err
