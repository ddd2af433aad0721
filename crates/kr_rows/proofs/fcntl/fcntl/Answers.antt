use Rattle.std.proofs.Common.{refl, sym, ap, ◌∙◌, w32}
use Rattle.std.specs.Option.{option_map_or}
use Rattle.std.proofs.Math.Facts.{to_z-of_z}
use Rattle.kr_seen.specs.pr_base.declared.errno.Errno.TheVariants.{EBADF, EINVAL}
use Rattle.kr_seen.specs.kr_model.Asking.{descriptor_number, or_closed}
use Rattle.kr_seen.specs.kr_model.DescriptorRows.{fcntl_by}
use Rattle.kr_seen.specs.kr_model.Known.{known}
use Rattle.kr_seen.specs.kr_model.Reply.{refuse}
use Rattle.kr_seen.specs.kr_model.State as model
use Rattle.kr_seen.specs.kr_ops.Meaning.{meaning}
use Rattle.kr_rows.specs.Commands.{number_of}
use Rattle.kr_seen.specs.PerformedRows.{open_number}
use Rattle.kr_rows.proofs.DescriptorLemmas.{is-open, not-open}
use Rattle.kr_rows.proofs.FcntlLemmas.{unknown}
use Rattle.kr_seen.proofs.PerformLemmas.{by-refusal, by-row}
use Rattle.kr_rows.proofs.fcntl.fcntl.Goals as goal

pub returns-in_default-clause-performs : goal.returns-in_default-clause-performs
returns-in_default-clause-performs g c = λ some.
    let k = known model.image_layout c.args.pid (meaning c.args.state.now) in
    by-refusal c.args.pid _ c.args.state.now c.args.state.now c.refused.result c.requires.pids EBADF
    (not-open k c.args.fd _ (ap (open_number k) (sym (to_z-of_z {w = w32} {z = c.args.fd} c.ranges.fd)) ∙ sym c.in_default.ensures)) c.refused.ensures refl

pub returns-in_default-natural-clause-performs : goal.returns-in_default-natural-clause-performs
returns-in_default-natural-clause-performs g c = λ some.
    let k = known model.image_layout c.args.pid (meaning c.args.state.now) in
    let open_ = is-open k c.args.fd (λ n o. option_map_or (λ d. fcntl_by k d c.args.arg n o) (descriptor_number c.args.cmd) (refuse EINVAL)) c.in-Some.fd (ap (open_number k) (sym (to_z-of_z {w = w32} {z = c.args.fd} c.ranges.fd)) ∙ sym c.in-Some.ensures) in
    by-refusal c.args.pid _ c.args.state.now c.args.state.now c.refused-in_default-natural.result c.requires.pids EINVAL
    (open_.2 ∙ ap (λ d. option_map_or (λ d. fcntl_by k d c.args.arg c.in-Some.fd open_.0) d (refuse EINVAL)) (ap descriptor_number (sym (to_z-of_z {w = w32} {z = c.args.cmd} c.ranges.cmd)) ∙ sym c.in_default-natural.ensures))
    c.refused-in_default-natural.ensures refl

pub returns-in-Some-of-clause-performs : goal.returns-in-Some-of-clause-performs
returns-in-Some-of-clause-performs g c = λ some.
    let k = known model.image_layout c.args.pid (meaning c.args.state.now) in
    let fd = c.in-Some.fd in
    let open_ = is-open k c.args.fd (λ n o. option_map_or (λ d. fcntl_by k d c.args.arg n o) (descriptor_number c.args.cmd) (refuse EINVAL)) fd (ap (open_number k) (sym (to_z-of_z {w = w32} {z = c.args.fd} c.ranges.fd)) ∙ sym c.in-Some.ensures) in
    by-row c.args.pid _ c.args.state.now _ _ c.requires.pids (λ k. or_closed (k.opened fd) (fcntl_by k (number_of c.in-Some-of.command) c.args.arg fd))
    (open_.2 ∙ ap (λ d. option_map_or (λ d. fcntl_by k d c.args.arg fd open_.0) d (refuse EINVAL)) (ap descriptor_number (sym (to_z-of_z {w = w32} {z = c.args.cmd} c.ranges.cmd)) ∙ sym c.in-Some-natural.ensures)
    ∙ ap (λ d. fcntl_by k d c.args.arg fd open_.0) (sym c.in-Some-of.ensures.some)
    ∙ sym (ap (λ o. or_closed o (fcntl_by k (number_of c.in-Some-of.command) c.args.arg fd)) open_.1))
    (c.obey.ensures.performs some)

pub returns-in-None-clause-performs : goal.returns-in-None-clause-performs
returns-in-None-clause-performs g c = λ some.
    let k = known model.image_layout c.args.pid (meaning c.args.state.now) in
    let fd = c.in-Some.fd in
    let open_ = is-open k c.args.fd (λ n o. option_map_or (λ d. fcntl_by k d c.args.arg n o) (descriptor_number c.args.cmd) (refuse EINVAL)) fd (ap (open_number k) (sym (to_z-of_z {w = w32} {z = c.args.fd} c.ranges.fd)) ∙ sym c.in-Some.ensures) in
    by-refusal c.args.pid _ c.args.state.now c.args.state.now c.refused-in-None.result c.requires.pids EINVAL
    (open_.2 ∙ ap (λ d. option_map_or (λ d. fcntl_by k d c.args.arg fd open_.0) d (refuse EINVAL)) (ap descriptor_number (sym (to_z-of_z {w = w32} {z = c.args.cmd} c.ranges.cmd)) ∙ sym c.in-Some-natural.ensures)
    ∙ unknown k fd c.in-Some-natural.cmd c.args.arg open_.0 c.in-None.ensures.none)
    c.refused-in-None.ensures refl
