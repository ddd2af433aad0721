use Rattle.std.proofs.Common.{refl, sym, ap, ◌∙◌, [], ◌∷◌, w32, w64, pos, ◌+ℤ◌}
use Rattle.std.specs.Option.{option_map}
use Rattle.std.proofs.Math.Facts.{to_z-of_z, to_z_pos}
use Rattle.kr_seen.specs.pr_base.declared.errno.Errno.TheVariants.{EBADF, EINVAL}
use Rattle.kr_seen.specs.kr_files.WithoutMounts.{without_mount}
use Rattle.kr_seen.specs.kr_model.Change.{Seek}
use Rattle.kr_seen.specs.kr_model.DescriptorRows.{seek_to, seek_what}
use Rattle.kr_seen.specs.kr_model.Known.{known}
use Rattle.kr_seen.specs.kr_model.Reply.{answers}
use Rattle.kr_seen.specs.kr_model.State as model
use Rattle.kr_seen.specs.kr_model.declared.outcome.Outcome.TheVariants.{Answer}
use Rattle.kr_seen.specs.kr_ops.Meaning.{meaning}
use Rattle.kr_seen.specs.PerformedRows.{open_number}
use Rattle.kr_rows.proofs.DescriptorLemmas.{not-open, opened-row}
use Rattle.kr_seen.proofs.PerformLemmas.{by-refusal, by-reply}
use Rattle.kr_rows.proofs.seeking.lseek.Goals as goal

pub returns-in_default-clause-performs : goal.returns-in_default-clause-performs
returns-in_default-clause-performs g c = λ some.
    let k = known model.image_layout c.args.pid (meaning c.args.state.now) in
    by-refusal c.args.pid _ c.args.state.now c.args.state.now c.refused.result c.requires.pids EBADF
    (not-open k c.args.fd _ (ap (open_number k) (sym (to_z-of_z {w = w32} {z = c.args.fd} c.ranges.fd)) ∙ sym c.in_default.ensures)) c.refused.ensures refl

pub returns-in-Err-clause-performs : goal.returns-in-Err-clause-performs
returns-in-Err-clause-performs g c = λ some.
    let k = known model.image_layout c.args.pid (meaning c.args.state.now) in
    let o = without_mount c.in-Some-opened.opened.now in
    by-refusal c.args.pid _ c.args.state.now c.args.state.now c.refused-in-Err.result c.requires.pids c.in-Err.errno
    (opened-row k c.args.fd (λ n o. seek_what k c.args.off c.args.whence n o o.what) c.in-Some.fd o (ap (open_number k) (sym (to_z-of_z {w = w32} {z = c.args.fd} c.ranges.fd)) ∙ sym c.in-Some.ensures) (ap (option_map without_mount) (sym c.in-Some-opened.ensures))
    ∙ ap (λ w. seek_what k c.args.off w c.in-Some.fd o o.what) (sym (to_z-of_z {w = w32} {z = c.args.whence} c.ranges.whence))
    ∙ c.in-Err.ensures.err c.args.pid c.in-Some.fd c.args.off)
    c.refused-in-Err.ensures refl

pub returns-in-Some-moved-clause-performs : goal.returns-in-Some-moved-clause-performs
returns-in-Some-moved-clause-performs g c = λ some.
    let k = known model.image_layout c.args.pid (meaning c.args.state.now) in
    let o = without_mount c.in-Some-opened.opened.now in
    let at = c.in-Some-moved.at in
    by-reply c.args.pid _ c.args.state.now c.seek.new.self _ c.requires.pids (answers at (Seek c.in-Some.fd at ∷ []))
    (opened-row k c.args.fd (λ n o. seek_what k c.args.off c.args.whence n o o.what) c.in-Some.fd o (ap (open_number k) (sym (to_z-of_z {w = w32} {z = c.args.fd} c.ranges.fd)) ∙ sym c.in-Some.ensures) (ap (option_map without_mount) (sym c.in-Some-opened.ensures))
    ∙ ap (λ w. seek_what k c.args.off w c.in-Some.fd o o.what) (sym (to_z-of_z {w = w32} {z = c.args.whence} c.ranges.whence))
    ∙ c.in-Ok.ensures.ok c.args.pid c.in-Some.fd c.args.off
    ∙ ap (λ z. seek_to c.in-Some.fd (pos c.in-Ok.origin +ℤ z)) (sym (to_z-of_z {w = w64} {z = c.args.off} c.ranges.off))
    ∙ sym (c.in-Some-moved.ensures.place c.in-Some.fd))
    (ap Answer (to_z_pos w64 c.in-Some-moved.ensures.below)) c.seek.ensures.makes

pub returns-in-None-clause-performs : goal.returns-in-None-clause-performs
returns-in-None-clause-performs g c = λ some.
    let k = known model.image_layout c.args.pid (meaning c.args.state.now) in
    let o = without_mount c.in-Some-opened.opened.now in
    by-refusal c.args.pid _ c.args.state.now c.args.state.now c.refused-in-None.result c.requires.pids EINVAL
    (opened-row k c.args.fd (λ n o. seek_what k c.args.off c.args.whence n o o.what) c.in-Some.fd o (ap (open_number k) (sym (to_z-of_z {w = w32} {z = c.args.fd} c.ranges.fd)) ∙ sym c.in-Some.ensures) (ap (option_map without_mount) (sym c.in-Some-opened.ensures))
    ∙ ap (λ w. seek_what k c.args.off w c.in-Some.fd o o.what) (sym (to_z-of_z {w = w32} {z = c.args.whence} c.ranges.whence))
    ∙ c.in-Ok.ensures.ok c.args.pid c.in-Some.fd c.args.off
    ∙ ap (λ z. seek_to c.in-Some.fd (pos c.in-Ok.origin +ℤ z)) (sym (to_z-of_z {w = w64} {z = c.args.off} c.ranges.off))
    ∙ sym (c.in-None.ensures.place c.in-Some.fd))
    c.refused-in-None.ensures refl
