use Rattle.std.proofs.Common.{◌≡◌, ℤ, Bool, true, false, sym, ap, ◌∙◌, w32}
use Rattle.std.specs.Bool.{if◌then◌else◌}
use Rattle.std.proofs.Math.Facts.{to_z-of_z}
use Rattle.law_allowed.specs.kr_model.Asking.{is_working_directory}
use Rattle.law_allowed.specs.kr_model.Known.{known}
use Rattle.law_allowed.specs.kr_model.State.{image_layout}
use Rattle.law_steady.specs.Ahead.{of_open, of_place, owner_alters}
use Rattle.kr_rows.specs.kr_ops.Meaning.{meaning}
use Rattle.kr_perform.proofs.altering.owner_here_alters.Goals as goal

pub returns-then-is_working_directory : goal.returns-then-is_working_directory
returns-then-is_working_directory g c =
    let k = known image_layout c.args.pid (meaning c.args.state.now) in
    let t = c.args.state.now.tree in
    let here = owner_alters t k c.args.uid c.args.gid in
    let other = of_open k c.args.dirfd (of_place here) in
    let tested : is_working_directory c.args.dirfd ≡ true =
    ap is_working_directory (sym (to_z-of_z {w = w32} {z = c.args.dirfd} c.ranges.dirfd)) ∙ sym c.is_working_directory.ensures ∙ c.if-is_working_directory.true in
    c.owner_alters.ensures c.args.pid ∙ ap here c.working_directory-host.ensures
    ∙ sym (ap (λ (b : Bool). if b then here k.caller.cwd else other) tested)

pub returns-else-is_working_directory : goal.returns-else-is_working_directory
returns-else-is_working_directory g c =
    let k = known image_layout c.args.pid (meaning c.args.state.now) in
    let t = c.args.state.now.tree in
    let here = owner_alters t k c.args.uid c.args.gid in
    let other = λ (z : ℤ). of_open k z (of_place here) in
    let tested : is_working_directory c.args.dirfd ≡ false =
    ap is_working_directory (sym (to_z-of_z {w = w32} {z = c.args.dirfd} c.ranges.dirfd)) ∙ sym c.is_working_directory.ensures ∙ c.if-is_working_directory.false in
    c.open_owner_alters.ensures ∙ ap other (to_z-of_z {w = w32} {z = c.args.dirfd} c.ranges.dirfd)
    ∙ sym (ap (λ (b : Bool). if b then here k.caller.cwd else other c.args.dirfd) tested)
