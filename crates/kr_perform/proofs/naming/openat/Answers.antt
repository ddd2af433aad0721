use Rattle.std.proofs.Common.{refl, sym, subst, None}
use Rattle.law_allowed.specs.kr_calls.declared.request.Request.TheVariants as call
use Rattle.kr_perform.specs.Operating.{OperatesAt}
use Rattle.kr_perform.proofs.OperatingLemmas.{nowhere}
use Rattle.kr_perform.proofs.naming.openat.Goals as goal

pub returns-in-Some-clause-performs : goal.returns-in-Some-clause-performs
returns-in-Some-clause-performs g c = λ dirfd path. subst (λ o. OperatesAt g.P.Places.number (g.P.Places.mounts c.args.places.now) c.args.pid (call.Openat dirfd path c.args.flags c.args.mode) o c.args.targets.now.second c.args.state.now c.openat.new.state c.openat.result) (sym c.in-Some.is) c.openat.ensures.performs

pub returns-in-None-clause-performs : goal.returns-in-None-clause-performs
returns-in-None-clause-performs g c = λ dirfd path.
    subst (λ o. OperatesAt g.P.Places.number (g.P.Places.mounts c.args.places.now) c.args.pid (call.Openat dirfd path c.args.flags c.args.mode) o c.args.targets.now.second c.args.state.now c.args.state.now c.refused.result) (sym c.in-None.is)
    (nowhere g.P.Places.number (g.P.Places.mounts c.args.places.now) c.args.pid (call.Openat dirfd path c.args.flags c.args.mode) None c.args.targets.now.second c.args.state.now c.refused.result c.requires.caller.lawful.pids refl c.refused.ensures)
