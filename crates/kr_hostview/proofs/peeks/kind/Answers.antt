use Rattle.std.proofs.Common.{sym, subst, Ok}
use Rattle.kr_seen.specs.pr_base.Peeks.{IsPeeked}
use Rattle.kr_seen.specs.kr_model.Peeks.{answer_along}
use Rattle.kr_seen.specs.kr_ops.Meaning.{meaning}
use Rattle.kr_hostview.specs.Peeking.{IsFound}
use Rattle.kr_hostview.proofs.WalkLemmas.{any-noted, kind-found}
use Rattle.kr_hostview.proofs.peeks.kind.Goals as goal

pub returns-in-Some-clause-answer : goal.returns-in-Some-clause-answer
returns-in-Some-clause-answer g c =
    subst (λ kind. IsPeeked kind c.kind_of.result)
    (sym
    (kind-found (meaning c.args.state.now) c.args.caller (answer_along (meaning c.args.state.now) c.args.caller c.args.host.now) c.in-Some.object
    (subst (λ object. IsFound (answer_along (meaning c.args.state.now) c.args.caller c.args.host.now) (Ok object)) c.in-Some.is c.in_ok-object.ensures.found)))
    (c.kind_of.ensures c.args.caller)

pub returns-in-Some-clause-noted : goal.returns-in-Some-clause-noted
returns-in-Some-clause-noted g c = any-noted _ c.find.new.unmet c.kind_of.result c.in_ok-object.ensures.noted
