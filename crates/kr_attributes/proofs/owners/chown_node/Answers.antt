use Rattle.std.proofs.Common.{refl, sym, ap, ◌∙◌, [], ◌∷◌, List}
use Rattle.kr_seen.specs.pr_base.declared.errno.Errno.TheVariants.{EPERM, ENOENT}
use Rattle.kr_seen.specs.kr_inode.declared.node.Meta.{Meta}
use Rattle.kr_seen.specs.kr_model.AttributeRows.{chown_by, or_old}
use Rattle.kr_seen.specs.kr_model.Change.{Change, SetOwner}
use Rattle.kr_seen.specs.kr_model.Reply.{answers, done}
use Rattle.kr_seen.specs.kr_ops.Meaning.{meaning}
use Rattle.kr_seen.proofs.PerformLemmas.{by-refusal, by-reply}
use Rattle.kr_attributes.specs.Ruled.{ruled}
use Rattle.kr_attributes.proofs.NodeLemmas.{chown-gone, chown-there, meta-gone, meta-there}
use Rattle.kr_attributes.proofs.owners.chown_node.Goals as goal

pub returns-in_default-clause-performs : goal.returns-in_default-clause-performs
returns-in_default-clause-performs g c = λ pid some.
    by-refusal pid _ c.args.state.now _ c.refused.result c.requires.pids ENOENT
    (chown-gone pid (meaning c.args.state.now) c.args.ino c.args.uid c.args.gid (meta-gone c.args.state.now.tree c.args.ino c.in_default.ensures)) c.refused.ensures refl

pub returns-in-Left-clause-performs : goal.returns-in-Left-clause-performs
returns-in-Left-clause-performs g c = λ pid some.
    let s = meaning c.args.state.now in
    let there = meta-there c.args.state.now.tree c.args.ino c.in-Some.meta c.in-Some.ensures in
    let uid = c.args.uid in
    let gid = c.args.gid in
    let by_meta : Meta → List Change = λ m. SetOwner c.args.ino (or_old uid m.uid) (or_old gid m.gid) ∷ [] in
    by-reply pid _ c.args.state.now _ _ c.requires.pids (answers 0 [])
    (chown-there pid s c.args.ino uid gid there.0 there.1
    ∙ ap (λ (m : Meta). chown_by s.user (record { uid = m.uid; gid = m.gid }) uid gid (by_meta m)) (sym there.2)
    ∙ c.rule.ensures (by_meta c.in-Some.meta)
    ∙ ap (λ r. ruled r (by_meta c.in-Some.meta)) c.in-Left.is)
    c.number.ensures (λ mounts. refl)

pub returns-in-Given-clause-performs : goal.returns-in-Given-clause-performs
returns-in-Given-clause-performs g c = λ pid some.
    let s = meaning c.args.state.now in
    let there = meta-there c.args.state.now.tree c.args.ino c.in-Some.meta c.in-Some.ensures in
    let uid = c.args.uid in
    let gid = c.args.gid in
    let by_meta : Meta → List Change = λ m. SetOwner c.args.ino (or_old uid m.uid) (or_old gid m.gid) ∷ [] in
    by-reply pid _ c.args.state.now c.set_owner.new.self _ c.requires.pids (answers 0 (SetOwner c.args.ino c.or_old.result c.or_old-in-Given.result ∷ []))
    (chown-there pid s c.args.ino uid gid there.0 there.1
    ∙ ap (λ (m : Meta). chown_by s.user (record { uid = m.uid; gid = m.gid }) uid gid (by_meta m)) (sym there.2)
    ∙ c.rule.ensures (by_meta c.in-Some.meta)
    ∙ ap (λ r. ruled r (by_meta c.in-Some.meta)) c.in-Given.is
    ∙ ap (λ uid. done 0 (SetOwner c.args.ino uid (or_old gid c.in-Some.meta.gid) ∷ [])) (sym c.or_old.ensures)
    ∙ ap (λ gid. done 0 (SetOwner c.args.ino c.or_old.result gid ∷ [])) (sym c.or_old-in-Given.ensures))
    c.number-in-Given.ensures (c.set_owner.ensures.makes pid)

pub returns-in-Refused-clause-performs : goal.returns-in-Refused-clause-performs
returns-in-Refused-clause-performs g c = λ pid some.
    let s = meaning c.args.state.now in
    let there = meta-there c.args.state.now.tree c.args.ino c.in-Some.meta c.in-Some.ensures in
    let uid = c.args.uid in
    let gid = c.args.gid in
    let by_meta : Meta → List Change = λ m. SetOwner c.args.ino (or_old uid m.uid) (or_old gid m.gid) ∷ [] in
    by-refusal pid _ c.args.state.now _ _ c.requires.pids EPERM
    (chown-there pid s c.args.ino uid gid there.0 there.1
    ∙ ap (λ (m : Meta). chown_by s.user (record { uid = m.uid; gid = m.gid }) uid gid (by_meta m)) (sym there.2)
    ∙ c.rule.ensures (by_meta c.in-Some.meta)
    ∙ ap (λ r. ruled r (by_meta c.in-Some.meta)) c.in-Refused.is)
    c.refused-in-Refused.ensures refl
