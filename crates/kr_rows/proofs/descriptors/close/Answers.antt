use Rattle.std.proofs.Common.{refl, sym, ap, ◌∙◌, [], ◌∷◌, w32}
use Rattle.std.proofs.Math.Facts.{to_z-of_z}
use Rattle.kr_seen.specs.pr_base.declared.errno.Errno.TheVariants.{EBADF}
use Rattle.kr_seen.specs.kr_model.Change.{CloseDescriptor}
use Rattle.kr_seen.specs.kr_model.Known.{known}
use Rattle.kr_seen.specs.kr_model.Reply.{answers, done}
use Rattle.kr_seen.specs.kr_model.State as model
use Rattle.kr_seen.specs.kr_ops.Meaning.{meaning}
use Rattle.kr_seen.specs.PerformedRows.{open_number}
use Rattle.kr_rows.proofs.DescriptorLemmas.{not-open, is-open}
use Rattle.kr_seen.proofs.PerformLemmas.{by-refusal, by-reply}
use Rattle.kr_rows.proofs.descriptors.close.Goals as goal

pub returns-in_default-clause-performs : goal.returns-in_default-clause-performs
returns-in_default-clause-performs g c = λ some.
    let k = known model.image_layout c.args.pid (meaning c.args.state.now) in
    by-refusal c.args.pid _ c.args.state.now c.args.state.now c.refused.result c.requires.pids EBADF
    (not-open k c.args.fd _ (ap (open_number k) (sym (to_z-of_z {w = w32} {z = c.args.fd} c.ranges.fd)) ∙ sym c.in_default.ensures)) c.refused.ensures refl

pub returns-clause-performs : goal.returns-clause-performs
returns-clause-performs g c = λ some.
    let k = known model.image_layout c.args.pid (meaning c.args.state.now) in
    by-reply c.args.pid _ c.args.state.now c.close.new.self _ c.requires.pids (answers 0 (CloseDescriptor c.in-Some.fd ∷ []))
    (is-open k c.args.fd (λ n o. done 0 (CloseDescriptor n ∷ [])) c.in-Some.fd (ap (open_number k) (sym (to_z-of_z {w = w32} {z = c.args.fd} c.ranges.fd)) ∙ sym c.in-Some.ensures)).2 c.number.ensures c.close.ensures.makes
