use Rattle.std.proofs.Common.{refl, sym, w32, []}
use Rattle.std.proofs.Math.Facts.{to_z-of_z}
use Rattle.kr_seen.specs.pr_base.declared.errno.Errno.TheVariants.{EBADF}
use Rattle.kr_seen.specs.kr_model.AttributeRows.{chown_by, chown_host}
use Rattle.kr_seen.specs.kr_model.Known.{known}
use Rattle.kr_seen.specs.kr_model.State.{image_layout}
use Rattle.kr_seen.specs.kr_ops.Meaning.{meaning}
use Rattle.kr_seen.proofs.PerformLemmas.{by-refusal, by-row}
use Rattle.kr_attributes.proofs.FoundLemmas.{closed, on-none, on-object}
use Rattle.kr_attributes.proofs.owners.fchown.Goals as goal

pub returns-in_default-clause-performs : goal.returns-in_default-clause-performs
returns-in_default-clause-performs g c = λ some.
    let k = known image_layout c.args.pid (meaning c.args.state.now) in
    by-refusal c.args.pid _ c.args.state.now c.args.state.now c.refused.result c.requires.pids EBADF
    (closed k c.args.fd (sym (to_z-of_z {w = w32} {z = c.args.fd} c.ranges.fd)) (chown_host k c.args.uid c.args.gid) (λ o. chown_by k.user k.user c.args.uid c.args.gid []) c.in_default.ensures.none) c.refused.ensures refl

pub returns-in-Some-host-clause-performs : goal.returns-in-Some-host-clause-performs
returns-in-Some-host-clause-performs g c = λ some.
    let k = known image_layout c.args.pid (meaning c.args.state.now) in
    by-row c.args.pid _ c.args.state.now c.chown.new.state c.chown.result c.requires.pids (λ k. chown_host k c.args.uid c.args.gid c.in-Some-host.host)
    (on-object k c.args.fd (sym (to_z-of_z {w = w32} {z = c.args.fd} c.ranges.fd)) (chown_host k c.args.uid c.args.gid) (λ o. chown_by k.user k.user c.args.uid c.args.gid []) c.in-Some.object c.in-Some.ensures.some c.in-Some-host.host c.in-Some-host.is)
    (c.chown.ensures.performs c.args.pid some)

pub returns-in-None-clause-performs : goal.returns-in-None-clause-performs
returns-in-None-clause-performs g c = λ some.
    let k = known image_layout c.args.pid (meaning c.args.state.now) in
    by-row c.args.pid _ c.args.state.now c.args.state.now c.chown_own.result c.requires.pids (λ k. chown_by k.user k.user c.args.uid c.args.gid [])
    (on-none k c.args.fd (sym (to_z-of_z {w = w32} {z = c.args.fd} c.ranges.fd)) (chown_host k c.args.uid c.args.gid) (λ o. chown_by k.user k.user c.args.uid c.args.gid []) c.in-Some.object c.in-Some.ensures.some c.in-None.is)
    (c.chown_own.ensures c.args.pid some)
