use Rattle.std.proofs.Common.{refl, ap, ◌∙◌, [], ◌∷◌, ◌%◌}
use Rattle.std.specs.Prelude.{◌==◌, ◌||◌, not}
use Rattle.std.specs.Bool.{if◌then◌else◌}
use Rattle.kr_seen.specs.pr_base.declared.errno.Errno.TheVariants.{EPERM, ENOENT}
use Rattle.kr_seen.specs.kr_inode.declared.node.Meta.{Meta}
use Rattle.kr_seen.specs.kr_model.Change.{SetMode}
use Rattle.kr_seen.specs.kr_model.Reply.{answers, done, refuse}
use Rattle.kr_seen.specs.kr_ops.Meaning.{meaning}
use Rattle.kr_seen.proofs.PerformLemmas.{by-refusal, by-reply}
use Rattle.kr_attributes.proofs.NodeLemmas.{chmod-gone, chmod-there, meta-gone, meta-there}
use Rattle.kr_attributes.proofs.modes.chmod_node.Goals as goal

pub returns-in_default-clause-performs : goal.returns-in_default-clause-performs
returns-in_default-clause-performs g c = λ pid some.
    by-refusal pid _ c.args.state.now _ c.refused.result c.requires.pids ENOENT
    (chmod-gone pid (meaning c.args.state.now) c.args.ino c.args.mode (meta-gone c.args.state.now.tree c.args.ino c.in_default.ensures)) c.refused.ensures refl

pub returns-then-is_processes_host-clause-performs : goal.returns-then-is_processes_host-clause-performs
returns-then-is_processes_host-clause-performs g c = λ pid some.
    let s = meaning c.args.state.now in
    let there = meta-there c.args.state.now.tree c.args.ino c.in-Some.meta c.in-Some.ensures in
    by-refusal pid _ c.args.state.now _ c.refused-then-is_processes_host.result c.requires.pids EPERM
    (chmod-there pid s c.args.ino c.args.mode there.0 c.is_processes_host.result (s.user.uid == there.0.node.uid) there.1 (c.is_processes_host.ensures pid) refl
    ∙ ap (λ p. if p || not (s.user.uid == there.0.node.uid) then refuse EPERM else done 0 (SetMode c.args.ino (c.args.mode % 4096) ∷ [])) c.if-is_processes_host.true)
    c.refused-then-is_processes_host.ensures refl

pub returns-then-not-is_owner-clause-performs : goal.returns-then-not-is_owner-clause-performs
returns-then-not-is_owner-clause-performs g c = λ pid some.
    let s = meaning c.args.state.now in
    let there = meta-there c.args.state.now.tree c.args.ino c.in-Some.meta c.in-Some.ensures in
    by-refusal pid _ c.args.state.now _ c.refused-then-not-is_owner.result c.requires.pids EPERM
    (chmod-there pid s c.args.ino c.args.mode there.0 c.is_processes_host.result c.is_owner.result there.1 (c.is_processes_host.ensures pid) (c.is_owner.ensures ∙ ap (λ (m : Meta). s.user.uid == m.uid) there.2)
    ∙ ap (λ p. if p || not c.is_owner.result then refuse EPERM else done 0 (SetMode c.args.ino (c.args.mode % 4096) ∷ [])) c.if-is_processes_host.false
    ∙ ap (λ o. if not o then refuse EPERM else done 0 (SetMode c.args.ino (c.args.mode % 4096) ∷ [])) c.if-not-is_owner.true)
    c.refused-then-not-is_owner.ensures refl

pub returns-clause-performs : goal.returns-clause-performs
returns-clause-performs g c = λ pid some.
    let s = meaning c.args.state.now in
    let there = meta-there c.args.state.now.tree c.args.ino c.in-Some.meta c.in-Some.ensures in
    by-reply pid _ c.args.state.now c.set_mode.new.self _ c.requires.pids (answers 0 (SetMode c.args.ino (c.args.mode % 4096) ∷ []))
    (chmod-there pid s c.args.ino c.args.mode there.0 c.is_processes_host.result c.is_owner.result there.1 (c.is_processes_host.ensures pid) (c.is_owner.ensures ∙ ap (λ (m : Meta). s.user.uid == m.uid) there.2)
    ∙ ap (λ p. if p || not c.is_owner.result then refuse EPERM else done 0 (SetMode c.args.ino (c.args.mode % 4096) ∷ [])) c.if-is_processes_host.false
    ∙ ap (λ o. if not o then refuse EPERM else done 0 (SetMode c.args.ino (c.args.mode % 4096) ∷ [])) c.if-not-is_owner.false)
    c.number.ensures (c.set_mode.ensures.makes pid)
