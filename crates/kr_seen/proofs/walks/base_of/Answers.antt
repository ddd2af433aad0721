use Rattle.std.proofs.Common.{sym, ap, ◌∙◌, subst, w32}
use Rattle.std.proofs.Math.Facts.{to_z-of_z}
use Rattle.std.specs.Prelude.{Some}
use Rattle.kr_ops.specs.pr_base.Paths.{is_absolute}
use Rattle.kr_ops.specs.kr_calls.PathTable.{path_use}
use Rattle.kr_ops.specs.kr_model.Asking.{descriptor_number, is_working_directory}
use Rattle.kr_ops.specs.Meaning.{meaning}
use Rattle.kr_seen.specs.CallWalks.{IsBase}
use Rattle.kr_seen.proofs.BaseLemmas.{from-cwd, from-descriptor}
use Rattle.kr_seen.proofs.walks.base_of.Goals as goal

pub returns-then-is_working_directory : goal.returns-then-is_working_directory
returns-then-is_working_directory g c =
    let table = g.P.Places.mounts c.args.places.now in
    let same = to_z-of_z {w = w32} {z = c.args.path.dirfd} (record { sfits = c.type_inv.path.0.1 }) in
    from-cwd g.P.Places.number table (meaning c.args.state.now) c.args.pid (path_use c.args.path) c.cwd_of.result (ap is_absolute (sym c.components.ensures) ∙ sym c.if-absolute.ensures)
    (ap is_working_directory (sym same) ∙ sym c.if-is_working_directory.ensures) c.cwd_of.ensures

pub returns-in-Some : goal.returns-in-Some
returns-in-Some g c =
    let table = g.P.Places.mounts c.args.places.now in
    let same = to_z-of_z {w = w32} {z = c.args.path.dirfd} (record { sfits = c.type_inv.path.0.1 }) in
    subst (λ answer. IsBase g.P.Places.number answer c.directory_of.result)
    (sym (from-descriptor g.P.Places.number table (meaning c.args.state.now) c.args.pid (path_use c.args.path) (Some c.in-Some.fd) (ap is_absolute (sym c.components.ensures) ∙ sym c.if-absolute.ensures)
    (ap is_working_directory (sym same) ∙ sym c.if-is_working_directory.ensures) (ap descriptor_number (sym same) ∙ sym c.in-Some.ensures)))
    (c.directory_of.ensures g.P.Places.number table)

pub returns-in-None : goal.returns-in-None
returns-in-None g c =
    let table = g.P.Places.mounts c.args.places.now in
    let same = to_z-of_z {w = w32} {z = c.args.path.dirfd} (record { sfits = c.type_inv.path.0.1 }) in
    from-descriptor g.P.Places.number table (meaning c.args.state.now) c.args.pid (path_use c.args.path) _ (ap is_absolute (sym c.components.ensures) ∙ sym c.if-absolute.ensures)
    (ap is_working_directory (sym same) ∙ sym c.if-is_working_directory.ensures) (ap descriptor_number (sym same) ∙ sym c.in-None.ensures)
