use Rattle.std.proofs.Common.{refl, sym, subst, None, Some}
use Rattle.law_allowed.specs.kr_calls.declared.request.Request.TheVariants as call
use Rattle.kr_perform.specs.Operating.{OperatesAt}
use Rattle.kr_perform.proofs.OperatingLemmas.{nowhere}
use Rattle.kr_perform.proofs.naming.renameat2.Goals as goal

pub returns-in_default-clause-performs : goal.returns-in_default-clause-performs
returns-in_default-clause-performs g c = λ olddir newdir old new.
    let table = g.P.Places.mounts c.args.places.now in
    let request = call.Renameat2 olddir old newdir new in
    subst (λ o. OperatesAt g.P.Places.number table c.args.pid request o c.args.targets.now.second c.args.state.now c.args.state.now c.refused.result) (sym c.in_default.is)
    (nowhere g.P.Places.number table c.args.pid request None c.args.targets.now.second c.args.state.now c.refused.result c.requires.sound.pids refl c.refused.ensures)

pub returns-in-Some-second-clause-performs : goal.returns-in-Some-second-clause-performs
returns-in-Some-second-clause-performs g c = λ olddir newdir old new.
    let table = g.P.Places.mounts c.args.places.now in
    let request = call.Renameat2 olddir old newdir new in
    subst (λ o. OperatesAt g.P.Places.number table c.args.pid request o c.args.targets.now.second c.args.state.now c.renameat2.new.state c.renameat2.result) (sym c.in-Some.is)
    (subst (λ o. OperatesAt g.P.Places.number table c.args.pid request (Some c.in-Some.old) o c.args.state.now c.renameat2.new.state c.renameat2.result) (sym c.in-Some-second.is) c.renameat2.ensures.performs)

pub returns-in-None-clause-performs : goal.returns-in-None-clause-performs
returns-in-None-clause-performs g c = λ olddir newdir old new.
    let table = g.P.Places.mounts c.args.places.now in
    let request = call.Renameat2 olddir old newdir new in
    subst (λ o. OperatesAt g.P.Places.number table c.args.pid request o c.args.targets.now.second c.args.state.now c.args.state.now c.refused-in-None.result) (sym c.in-Some.is)
    (subst (λ o. OperatesAt g.P.Places.number table c.args.pid request (Some c.in-Some.old) o c.args.state.now c.args.state.now c.refused-in-None.result) (sym c.in-None.is)
    (nowhere g.P.Places.number table c.args.pid request (Some c.in-Some.old) None c.args.state.now c.refused-in-None.result c.requires.sound.pids refl c.refused-in-None.ensures))
