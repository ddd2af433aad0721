use Rattle.std.proofs.Common.{refl, sym, ap, ◌∙◌, w32}
use Rattle.std.proofs.Math.Facts.{to_z-of_z}
use Rattle.kr_seen.specs.kr_model.Known.{known}
use Rattle.kr_seen.specs.kr_model.Reply.{refuse}
use Rattle.kr_seen.specs.kr_model.State as model
use Rattle.kr_seen.specs.kr_ops.Meaning.{meaning}
use Rattle.kr_seen.specs.pr_base.declared.errno.Errno.TheVariants.{EBADF, ENOTTY}
use Rattle.kr_seen.specs.PerformedRows.{open_number}
use Rattle.kr_rows.proofs.DescriptorLemmas.{not-open, is-open}
use Rattle.kr_seen.proofs.PerformLemmas.{by-refusal}
use Rattle.kr_rows.proofs.descriptors.ioctl.Goals as goal

pub returns-in-Some : goal.returns-in-Some
returns-in-Some g c = λ some.
    by-refusal c.args.pid _ c.args.state.now c.args.state.now c.refused.result c.requires.pids ENOTTY
    (is-open (known model.image_layout c.args.pid (meaning c.args.state.now)) c.args.fd (λ n o. refuse ENOTTY) c.in-Some._fd (ap (open_number (known model.image_layout c.args.pid (meaning c.args.state.now))) (sym (to_z-of_z {w = w32} {z = c.args.fd} c.ranges.fd)) ∙ sym c.in-Some.ensures)).2 c.refused.ensures refl

pub returns-in-None : goal.returns-in-None
returns-in-None g c = λ some.
    by-refusal c.args.pid _ c.args.state.now c.args.state.now c.refused-in-None.result c.requires.pids EBADF
    (not-open (known model.image_layout c.args.pid (meaning c.args.state.now)) c.args.fd _ (ap (open_number (known model.image_layout c.args.pid (meaning c.args.state.now))) (sym (to_z-of_z {w = w32} {z = c.args.fd} c.ranges.fd)) ∙ sym c.in-None.ensures)) c.refused-in-None.ensures refl
