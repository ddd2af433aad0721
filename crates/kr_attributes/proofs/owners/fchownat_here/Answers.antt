use Rattle.std.proofs.Common.{ℤ, sym, ap, ◌∙◌, w32, to_z, of_z}
use Rattle.std.specs.Bool.{if◌then◌else◌}
use Rattle.std.proofs.Math.Facts.{to_z-of_z}
use Rattle.kr_seen.specs.kr_model.Asking.{is_working_directory}
use Rattle.kr_seen.specs.kr_model.AttributeRows.{chown_host, fchown_row}
use Rattle.kr_seen.specs.kr_model.Known.{known}
use Rattle.kr_seen.specs.kr_model.State.{image_layout}
use Rattle.kr_seen.specs.kr_ops.Meaning.{meaning}
use Rattle.kr_seen.proofs.PerformLemmas.{by-row}
use Rattle.kr_attributes.proofs.owners.fchownat_here.Goals as goal

pub returns-then-is_working_directory-clause-performs : goal.returns-then-is_working_directory-clause-performs
returns-then-is_working_directory-clause-performs g c = λ some.
    let k = known image_layout c.args.pid (meaning c.args.state.now) in
    let cwd = chown_host k c.args.uid c.args.gid k.caller.cwd in
    let other = fchown_row k c.args.dirfd c.args.uid c.args.gid in
    by-row c.args.pid _ c.args.state.now c.chown.new.state c.chown.result c.requires.sound.pids (λ k. chown_host k c.args.uid c.args.gid c.working_directory-host.result)
    (ap (λ (z : ℤ). if is_working_directory z then cwd else other) (sym (to_z-of_z {w = w32} {z = c.args.dirfd} c.ranges.dirfd))
    ∙ ap (λ b. if b then cwd else other) (sym c.is_working_directory.ensures ∙ c.if-is_working_directory.true)
    ∙ ap (chown_host k c.args.uid c.args.gid) (sym c.working_directory-host.ensures))
    (c.chown.ensures.performs c.args.pid some)

pub returns-else-is_working_directory-clause-performs : goal.returns-else-is_working_directory-clause-performs
returns-else-is_working_directory-clause-performs g c = λ some.
    let k = known image_layout c.args.pid (meaning c.args.state.now) in
    let cwd = chown_host k c.args.uid c.args.gid k.caller.cwd in
    let z : ℤ = to_z w32 (of_z w32 c.args.dirfd) in
    by-row c.args.pid _ c.args.state.now c.fchown.new.state c.fchown.result c.requires.sound.pids (λ k. fchown_row k z c.args.uid c.args.gid)
    (ap (λ (z : ℤ). if is_working_directory z then cwd else fchown_row k z c.args.uid c.args.gid) (sym (to_z-of_z {w = w32} {z = c.args.dirfd} c.ranges.dirfd))
    ∙ ap (λ b. if b then cwd else fchown_row k z c.args.uid c.args.gid) (sym c.is_working_directory.ensures ∙ c.if-is_working_directory.false))
    (c.fchown.ensures.performs some)
