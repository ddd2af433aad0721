use Rattle.std.proofs.Common.{sym, ap, ◌∙◌, w32, to_z, pos, ◌+ℤ◌}
use Rattle.std.proofs.Math.Facts.{to_z-of_z}
use Rattle.kr_seen.specs.kr_files.WithoutMounts.{without_mount}
use Rattle.kr_seen.specs.kr_model.DescriptorRows.{seek_file, seek_to, seek_what}
use Rattle.kr_seen.specs.kr_model.Known.{known}
use Rattle.kr_seen.specs.kr_model.State as model
use Rattle.kr_seen.specs.kr_ops.Meaning.{meaning}
use Rattle.kr_rows.proofs.seeking.origin.Goals as goal

pub returns-in-File-eq2-clause-ok : goal.returns-in-File-eq2-clause-ok
returns-in-File-eq2-clause-ok g c = λ pid fd off.
    let k = known model.image_layout pid (meaning c.args.state.now) in
    let o = without_mount c.args.opened.now in
    ap (λ what. seek_what k off c.args.whence fd o what) c.in-File-eq2.is-0
    ∙ ap (λ z. seek_file k off z fd o) (sym (to_z-of_z {w = w32} {z = c.args.whence} c.ranges.whence) ∙ ap (to_z w32) c.in-File-eq2.is-1)
    ∙ ap (λ n. seek_to fd (pos n +ℤ off)) (sym (c.length.ensures pid))
