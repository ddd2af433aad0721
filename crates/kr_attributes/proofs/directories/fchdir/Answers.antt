use Rattle.std.proofs.Common.{ℕ, [], ◌∷◌, refl, sym, ap, ◌∙◌, w32, lit<}
use Rattle.std.proofs.Math.Facts.{to_z-of_z}
use Rattle.kr_seen.specs.pr_base.declared.errno.Errno.TheVariants.{EBADF, ENOTDIR}
use Rattle.kr_seen.specs.kr_tree.declared.place.Host.{Host}
use Rattle.kr_seen.specs.kr_model.Asking.{descriptor_number}
use Rattle.kr_seen.specs.kr_model.Change.{ChangeDirectory, OfDescriptor}
use Rattle.kr_seen.specs.kr_model.DirectoryRows.{if_entered}
use Rattle.kr_seen.specs.kr_model.Known.{known}
use Rattle.kr_seen.specs.kr_model.Reply.{Replying, done, refuse}
use Rattle.kr_seen.specs.kr_model.State.{image_layout}
use Rattle.kr_seen.specs.kr_ops.Meaning.{meaning}
use Rattle.kr_seen.proofs.PerformLemmas.{by-refusal}
use Rattle.kr_attributes.proofs.FoundLemmas.{is-placed, is-unplaced, mount-of-open, negative, not-open, place-there}
use Rattle.kr_attributes.proofs.RowLemmas.{at-all, by-row}
use Rattle.kr_attributes.proofs.directories.fchdir.Goals as goal

pub returns-in_default-clause-performs : goal.returns-in_default-clause-performs
returns-in_default-clause-performs g c = λ some.
    by-refusal c.args.pid _ c.args.state.now c.args.state.now c.refused.result c.requires.sound.pids EBADF
    (negative c.args.pid (meaning c.args.state.now) c.args.fd _ (ap descriptor_number (sym (to_z-of_z {w = w32} {z = c.args.fd} c.ranges.fd)) ∙ sym c.in_default.ensures)) c.refused.ensures refl

pub returns-in_default-opened-clause-performs : goal.returns-in_default-opened-clause-performs
returns-in_default-opened-clause-performs g c = λ some.
    by-refusal c.args.pid _ c.args.state.now c.args.state.now c.refused-in_default-opened.result c.requires.sound.pids EBADF
    (not-open c.args.pid (meaning c.args.state.now) c.args.fd _ c.in-Some.number (ap descriptor_number (sym (to_z-of_z {w = w32} {z = c.args.fd} c.ranges.fd)) ∙ sym c.in-Some.ensures) (sym c.in_default-opened.ensures))
    c.refused-in_default-opened.ensures refl

pub enter-requires : goal.enter-requires
enter-requires g c = (
  lit< tt,
  (c.requires, place-there c.args.state.now c.requires.sound c.args.pid c.in-Some.number c.in-Some-opened.opened.now c.in-Some-place.place (sym c.in-Some-opened.ensures) c.in-Some-place.is),
)

pub returns-in-Some-place-clause-performs : goal.returns-in-Some-place-clause-performs
returns-in-Some-place-clause-performs g c = λ some.
    let s = meaning c.args.state.now in
    let n = c.in-Some.number in
    let k = known image_layout c.args.pid s in
    let row : ℕ → Host → Replying = λ n host. if_entered k host (done 0 (ChangeDirectory (OfDescriptor n) host ∷ [])) in
    let place = c.in-Some-place.place in
    at-all c.args.pid _ c.args.state.now c.enter.new.state c.enter.result
    (λ mounts.
    by-row c.args.pid _ c.args.state.now c.enter.new.state c.enter.result mounts (λ k. if_entered k place.host (done 0 (ChangeDirectory (OfDescriptor n) place.host ∷ [])))
    (is-placed c.args.pid s c.args.fd row (refuse ENOTDIR) n (ap descriptor_number (sym (to_z-of_z {w = w32} {z = c.args.fd} c.ranges.fd)) ∙ sym c.in-Some.ensures) c.in-Some-opened.opened.now (sym c.in-Some-opened.ensures) place c.in-Some-place.is)
    (c.enter.ensures.performs mounts (OfDescriptor n) (mount-of-open c.args.pid s n c.in-Some-opened.opened.now place mounts (sym c.in-Some-opened.ensures) c.in-Some-place.is) some))

pub returns-in-None-clause-performs : goal.returns-in-None-clause-performs
returns-in-None-clause-performs g c = λ some.
    let s = meaning c.args.state.now in
    let k = known image_layout c.args.pid s in
    let row : ℕ → Host → Replying = λ n host. if_entered k host (done 0 (ChangeDirectory (OfDescriptor n) host ∷ [])) in
    by-refusal c.args.pid _ c.args.state.now c.args.state.now c.refused-in-None.result c.requires.sound.pids ENOTDIR
    (is-unplaced c.args.pid s c.args.fd row (refuse ENOTDIR) c.in-Some.number (ap descriptor_number (sym (to_z-of_z {w = w32} {z = c.args.fd} c.ranges.fd)) ∙ sym c.in-Some.ensures) c.in-Some-opened.opened.now (sym c.in-Some-opened.ensures) c.in-None.is)
    c.refused-in-None.ensures refl
