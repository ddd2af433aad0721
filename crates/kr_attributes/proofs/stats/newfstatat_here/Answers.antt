use Rattle.std.proofs.Common.{ℤ, sym, ap, ◌∙◌, w32, to_z, of_z}
use Rattle.std.specs.Bool.{if◌then◌else◌}
use Rattle.std.proofs.Math.Facts.{to_z-of_z}
use Rattle.kr_seen.specs.kr_model.Asking.{is_working_directory}
use Rattle.kr_seen.specs.kr_model.AttributeRows.{fstat_row, stat_host}
use Rattle.kr_seen.specs.kr_model.Known.{known}
use Rattle.kr_seen.specs.kr_model.State.{image_layout}
use Rattle.kr_seen.specs.kr_ops.Meaning.{meaning}
use Rattle.kr_seen.proofs.PerformLemmas.{by-row}
use Rattle.kr_attributes.proofs.stats.newfstatat_here.Goals as goal

pub returns-then-is_working_directory-clause-performs : goal.returns-then-is_working_directory-clause-performs
returns-then-is_working_directory-clause-performs g c = λ some.
    let k = known image_layout c.args.pid (meaning c.args.state.now) in
    let cwd = stat_host k c.args.buf k.caller.cwd in
    let other = fstat_row k c.args.dirfd c.args.buf in
    by-row c.args.pid _ c.args.state.now c.tell_object.new.state c.tell_object.result c.requires.sound.pids (λ k. stat_host k c.args.buf c.working_directory-host.result)
    (ap (λ (z : ℤ). if is_working_directory z then cwd else other) (sym (to_z-of_z {w = w32} {z = c.args.dirfd} c.ranges.dirfd))
    ∙ ap (λ b. if b then cwd else other) (sym c.is_working_directory.ensures ∙ c.if-is_working_directory.true)
    ∙ ap (stat_host k c.args.buf) (sym c.working_directory-host.ensures))
    (c.tell_object.ensures.performs some)

pub returns-else-is_working_directory-clause-performs : goal.returns-else-is_working_directory-clause-performs
returns-else-is_working_directory-clause-performs g c = λ some.
    let k = known image_layout c.args.pid (meaning c.args.state.now) in
    let cwd = stat_host k c.args.buf k.caller.cwd in
    let z : ℤ = to_z w32 (of_z w32 c.args.dirfd) in
    by-row c.args.pid _ c.args.state.now c.fstat.new.state c.fstat.result c.requires.sound.pids (λ k. fstat_row k z c.args.buf)
    (ap (λ (z : ℤ). if is_working_directory z then cwd else fstat_row k z c.args.buf) (sym (to_z-of_z {w = w32} {z = c.args.dirfd} c.ranges.dirfd))
    ∙ ap (λ b. if b then cwd else fstat_row k z c.args.buf) (sym c.is_working_directory.ensures ∙ c.if-is_working_directory.false))
    (c.fstat.ensures.performs some)
