use Rattle.std.proofs.Common.{refl, sym, subst, None, Some}
use Rattle.law_allowed.specs.kr_calls.declared.request.Request.TheVariants as call
use Rattle.kr_perform.specs.Operating.{OperatesAt}
use Rattle.kr_perform.proofs.OperatingLemmas.{nowhere}
use Rattle.kr_perform.proofs.naming.symlinkat.Goals as goal

pub returns-in_default-clause-performs : goal.returns-in_default-clause-performs
returns-in_default-clause-performs g c = λ n table dirfd path.
    let request = call.Symlinkat c.args.text.now dirfd path in
    subst (λ o. OperatesAt n table c.args.pid request o c.args.targets.now.second c.args.state.now c.args.state.now c.refused.result) (sym c.in_default.is)
    (nowhere n table c.args.pid request None c.args.targets.now.second c.args.state.now c.refused.result c.requires.sound.pids refl c.refused.ensures)

pub returns-in-Ok-clause-performs : goal.returns-in-Ok-clause-performs
returns-in-Ok-clause-performs g c = λ n table dirfd path.
    subst (λ o. OperatesAt n table c.args.pid (call.Symlinkat c.args.text.now dirfd path) o c.args.targets.now.second c.args.state.now c.symlinkat.new.state c.symlinkat.result) (sym c.in-Some.is)
    (subst (λ text. OperatesAt n table c.args.pid (call.Symlinkat text dirfd path) (Some c.in-Some.target) c.args.targets.now.second c.args.state.now c.symlinkat.new.state c.symlinkat.result) c.in-Ok.ensures (c.symlinkat.ensures.performs n table))
