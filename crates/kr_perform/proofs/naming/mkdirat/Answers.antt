use Rattle.std.proofs.Common.{refl, sym, subst, None}
use Rattle.law_allowed.specs.kr_calls.declared.request.Request.TheVariants as call
use Rattle.kr_perform.specs.Operating.{OperatesAt}
use Rattle.kr_perform.proofs.OperatingLemmas.{nowhere}
use Rattle.kr_perform.proofs.naming.mkdirat.Goals as goal

pub returns-in-Some-clause-performs : goal.returns-in-Some-clause-performs
returns-in-Some-clause-performs g c = λ n table dirfd path. subst (λ o. OperatesAt n table c.args.pid (call.Mkdirat dirfd path c.args.mode) o c.args.targets.now.second c.args.state.now c.mkdirat.new.state c.mkdirat.result) (sym c.in-Some.is) (c.mkdirat.ensures.performs n table)

pub returns-in-None-clause-performs : goal.returns-in-None-clause-performs
returns-in-None-clause-performs g c = λ n table dirfd path.
    subst (λ o. OperatesAt n table c.args.pid (call.Mkdirat dirfd path c.args.mode) o c.args.targets.now.second c.args.state.now c.args.state.now c.refused.result) (sym c.in-None.is)
    (nowhere n table c.args.pid (call.Mkdirat dirfd path c.args.mode) None c.args.targets.now.second c.args.state.now c.refused.result c.requires.caller.sound.pids refl c.refused.ensures)
