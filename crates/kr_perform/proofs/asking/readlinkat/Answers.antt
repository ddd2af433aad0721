use Rattle.std.proofs.Common.{refl, sym, subst, None, Some, w32}
use Rattle.std.proofs.Math.Facts.{to_z-of_z}
use Rattle.law_allowed.specs.kr_calls.declared.request.Request.TheVariants as call
use Rattle.kr_perform.specs.Operating.{OperatesAt}
use Rattle.kr_perform.proofs.OperatingLemmas.{nowhere}
use Rattle.kr_perform.proofs.asking.readlinkat.Goals as goal

pub returns-in-Some-clause-performs : goal.returns-in-Some-clause-performs
returns-in-Some-clause-performs g c = λ dirfd path.
    let table = g.P.Places.mounts c.args.places.now in
    let size = to_z-of_z {w = w32} {z = c.args.size} c.ranges.size in
    subst (λ o. OperatesAt g.P.Places.number table c.args.pid (call.Readlinkat dirfd path c.args.buf c.args.size) o c.args.targets.now.second c.args.state.now c.readlinkat.new.state c.readlinkat.result) (sym c.in-Some.is)
    (subst (λ z. OperatesAt g.P.Places.number table c.args.pid (call.Readlinkat dirfd path c.args.buf z) (Some c.in-Some.target) c.args.targets.now.second c.args.state.now c.readlinkat.new.state c.readlinkat.result) size c.readlinkat.ensures.performs)

pub returns-in-None-clause-performs : goal.returns-in-None-clause-performs
returns-in-None-clause-performs g c = λ dirfd path.
    let table = g.P.Places.mounts c.args.places.now in
    subst (λ o. OperatesAt g.P.Places.number table c.args.pid (call.Readlinkat dirfd path c.args.buf c.args.size) o c.args.targets.now.second c.args.state.now c.args.state.now c.refused.result) (sym c.in-None.is)
    (nowhere g.P.Places.number table c.args.pid (call.Readlinkat dirfd path c.args.buf c.args.size) None c.args.targets.now.second c.args.state.now c.refused.result c.requires.lawful.pids refl c.refused.ensures)
