use Rattle.std.proofs.Common.{refl, sym, w32}
use Rattle.std.proofs.Math.Facts.{to_z-of_z}
use Rattle.kr_seen.specs.pr_base.declared.errno.Errno.TheVariants.{EPERM, EBADF}
use Rattle.kr_seen.specs.kr_model.AttributeRows.{chmod_host}
use Rattle.kr_seen.specs.kr_model.Known.{known}
use Rattle.kr_seen.specs.kr_model.Reply.{refuse}
use Rattle.kr_seen.specs.kr_model.State.{image_layout}
use Rattle.kr_seen.specs.kr_ops.Meaning.{meaning}
use Rattle.kr_seen.proofs.PerformLemmas.{by-refusal, by-row}
use Rattle.kr_attributes.proofs.FoundLemmas.{closed, on-none, on-object}
use Rattle.kr_attributes.proofs.modes.fchmod.Goals as goal

pub returns-in_default-clause-performs : goal.returns-in_default-clause-performs
returns-in_default-clause-performs g c = λ some.
    let k = known image_layout c.args.pid (meaning c.args.state.now) in
    by-refusal c.args.pid _ c.args.state.now c.args.state.now c.refused.result c.requires.pids EBADF
    (closed k c.args.fd (sym (to_z-of_z {w = w32} {z = c.args.fd} c.ranges.fd)) (chmod_host k c.args.mode) (λ o. refuse EPERM) c.in_default.ensures.none) c.refused.ensures refl

pub returns-in-Some-host-clause-performs : goal.returns-in-Some-host-clause-performs
returns-in-Some-host-clause-performs g c = λ some.
    let k = known image_layout c.args.pid (meaning c.args.state.now) in
    by-row c.args.pid _ c.args.state.now c.chmod.new.state c.chmod.result c.requires.pids (λ k. chmod_host k c.args.mode c.in-Some-host.host)
    (on-object k c.args.fd (sym (to_z-of_z {w = w32} {z = c.args.fd} c.ranges.fd)) (chmod_host k c.args.mode) (λ o. refuse EPERM) c.in-Some.object c.in-Some.ensures.some c.in-Some-host.host c.in-Some-host.is)
    (c.chmod.ensures.performs c.args.pid some)

pub returns-in-None-clause-performs : goal.returns-in-None-clause-performs
returns-in-None-clause-performs g c = λ some.
    let k = known image_layout c.args.pid (meaning c.args.state.now) in
    by-refusal c.args.pid _ c.args.state.now c.args.state.now c.refused-in-None.result c.requires.pids EPERM
    (on-none k c.args.fd (sym (to_z-of_z {w = w32} {z = c.args.fd} c.ranges.fd)) (chmod_host k c.args.mode) (λ o. refuse EPERM) c.in-Some.object c.in-Some.ensures.some c.in-None.is)
    c.refused-in-None.ensures refl
