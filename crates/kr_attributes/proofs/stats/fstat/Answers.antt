use Rattle.std.proofs.Common.{refl, sym, ap, ◌∙◌, w32}
use Rattle.std.proofs.Math.Facts.{to_z-of_z}
use Rattle.kr_seen.specs.pr_base.declared.errno.Errno.TheVariants.{EBADF}
use Rattle.kr_seen.specs.kr_model.AttributeRows.{stat_host, stat_unplaced}
use Rattle.kr_seen.specs.kr_model.Known.{known}
use Rattle.kr_seen.specs.kr_model.State.{image_layout}
use Rattle.kr_seen.specs.kr_ops.Meaning.{meaning}
use Rattle.kr_seen.proofs.PerformLemmas.{by-refusal, by-row}
use Rattle.kr_attributes.proofs.FoundLemmas.{closed, on-none, on-object}
use Rattle.kr_attributes.proofs.stats.fstat.Goals as goal

pub returns-in_default-clause-performs : goal.returns-in_default-clause-performs
returns-in_default-clause-performs g c = λ some.
    let k = known image_layout c.args.pid (meaning c.args.state.now) in
    by-refusal c.args.pid _ c.args.state.now c.args.state.now c.refused.result c.requires.sound.pids EBADF
    (closed k c.args.fd (sym (to_z-of_z {w = w32} {z = c.args.fd} c.ranges.fd)) (stat_host k c.args.buf) (λ o. stat_unplaced k c.args.buf o.what) c.in_default.ensures.none) c.refused.ensures refl

pub returns-in-Some-host-clause-performs : goal.returns-in-Some-host-clause-performs
returns-in-Some-host-clause-performs g c = λ some.
    let k = known image_layout c.args.pid (meaning c.args.state.now) in
    by-row c.args.pid _ c.args.state.now c.tell_object.new.state c.tell_object.result c.requires.sound.pids (λ k. stat_host k c.args.buf c.in-Some-host.host)
    (on-object k c.args.fd (sym (to_z-of_z {w = w32} {z = c.args.fd} c.ranges.fd)) (stat_host k c.args.buf) (λ o. stat_unplaced k c.args.buf o.what) c.in-Some.object c.in-Some.ensures.some c.in-Some-host.host c.in-Some-host.is)
    (c.tell_object.ensures.performs some)

pub returns-in-None-clause-performs : goal.returns-in-None-clause-performs
returns-in-None-clause-performs g c = λ some.
    let k = known image_layout c.args.pid (meaning c.args.state.now) in
    by-row c.args.pid _ c.args.state.now c.tell_unplaced.new.state c.tell_unplaced.result c.requires.sound.pids (λ k. stat_unplaced k c.args.buf c.in-Some.object.what)
    (on-none k c.args.fd (sym (to_z-of_z {w = w32} {z = c.args.fd} c.ranges.fd)) (stat_host k c.args.buf) (λ o. stat_unplaced k c.args.buf o.what) c.in-Some.object c.in-Some.ensures.some c.in-None.is
    ∙ ap (stat_unplaced k c.args.buf) (sym c.in-Some.ensures.some.what))
    (c.tell_unplaced.ensures.performs some)
