use Rattle.std.proofs.Common.{refl, sym, ap, ◌∙◌, [], ◌∷◌, Err, false, w32}
use Rattle.std.proofs.Math.Facts.{to_z-of_z}
use Rattle.kr_seen.specs.pr_base.declared.errno.Errno.TheVariants.{EBADF, EMFILE}
use Rattle.kr_seen.specs.kr_files.Descriptors.{lowest_free}
use Rattle.kr_seen.specs.kr_model.Change.{CopyDescriptor}
use Rattle.kr_seen.specs.kr_model.DescriptorRows.{copy_under}
use Rattle.kr_seen.specs.kr_model.Known.{known}
use Rattle.kr_seen.specs.kr_model.Reply.{answers}
use Rattle.kr_seen.specs.kr_model.State as model
use Rattle.kr_seen.specs.kr_ops.Meaning.{meaning}
use Rattle.kr_seen.specs.PerformedRows.{open_number}
use Rattle.kr_rows.proofs.DescriptorLemmas.{not-open, is-open, lowest-known}
use Rattle.kr_seen.proofs.PerformLemmas.{by-refusal, by-reply}
use Rattle.kr_rows.proofs.descriptors.dup.Goals as goal

pub returns-in_default-clause-performs : goal.returns-in_default-clause-performs
returns-in_default-clause-performs g c = λ some.
    let k = known model.image_layout c.args.pid (meaning c.args.state.now) in
    by-refusal c.args.pid _ c.args.state.now c.args.state.now c.refused.result c.requires.pids EBADF
    (not-open k c.args.fd _ (ap (open_number k) (sym (to_z-of_z {w = w32} {z = c.args.fd} c.ranges.fd)) ∙ sym c.in_default.ensures)) c.refused.ensures refl

pub returns-in-Ok-clause-performs : goal.returns-in-Ok-clause-performs
returns-in-Ok-clause-performs g c = λ some.
    let k = known model.image_layout c.args.pid (meaning c.args.state.now) in
    let open_ = is-open k c.args.fd (λ n o. copy_under n false (lowest_free k.caller.descs 0)) c.in-Some.fd (ap (open_number k) (sym (to_z-of_z {w = w32} {z = c.args.fd} c.ranges.fd)) ∙ sym c.in-Some.ensures) in
    by-reply c.args.pid _ c.args.state.now c.copy.new.self _ c.requires.pids (answers c.in-Ok.to (CopyDescriptor c.in-Some.fd c.in-Ok.to false ∷ []))
    (open_.2 ∙ ap (copy_under c.in-Some.fd false) (sym (lowest-known (meaning c.args.state.now) c.args.pid c.in-Some.fd 0 open_.0 open_.1) ∙ c.in-Ok.ensures.lowest)) c.number.ensures c.in-Ok.ensures.makes

pub returns-in-Err-Full-clause-performs : goal.returns-in-Err-Full-clause-performs
returns-in-Err-Full-clause-performs g c = λ some.
    let k = known model.image_layout c.args.pid (meaning c.args.state.now) in
    let open_ = is-open k c.args.fd (λ n o. copy_under n false (lowest_free k.caller.descs 0)) c.in-Some.fd (ap (open_number k) (sym (to_z-of_z {w = w32} {z = c.args.fd} c.ranges.fd)) ∙ sym c.in-Some.ensures) in
    by-refusal c.args.pid _ c.args.state.now c.copy.new.self c.refused-in-Err-Full.result c.requires.pids EMFILE
    (open_.2 ∙ ap (copy_under c.in-Some.fd false) (sym (lowest-known (meaning c.args.state.now) c.args.pid c.in-Some.fd 0 open_.0 open_.1) ∙ c.copy.ensures.full.0 (c.in-Err-Full.is ∙ ap (λ x. Err x) c.in-Err-Full.field-0-is)))
    c.refused-in-Err-Full.ensures c.in-Err-Full.ensures.err.same

pub returns-in-Err-Full-clause-served : goal.returns-in-Err-Full-clause-served
returns-in-Err-Full-clause-served g c = λ some. c.in-Err-Full.ensures.err.served
