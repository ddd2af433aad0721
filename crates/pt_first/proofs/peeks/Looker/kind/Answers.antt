use Rattle.std.proofs.Common.{sym, subst, Ok}
use Rattle.pr_words.specs.pr_base.Peeks.{IsPeeked}
use Rattle.kr_hostview.proofs.WalkLemmas.{any-noted}
use Rattle.kr_hostview.specs.Peeking.{IsFound}
use Rattle.pt_first.specs.FirstPeeks.{answer_along}
use Rattle.pt_first.proofs.PeekLemmas.{kind-found}
use Rattle.pt_first.proofs.peeks.Looker.kind.Goals as goal

pub returns-in-Some-clause-answer : goal.returns-in-Some-clause-answer
returns-in-Some-clause-answer c =
    subst (λ kind. IsPeeked kind c.kind_of.result)
    (sym
    (kind-found c.args.self.now.tree.now c.args.self.now.user (answer_along c.args.self.now.tree.now c.args.self.now.user c.args.host.now) c.in-Some.object
    (subst (λ object. IsFound (answer_along c.args.self.now.tree.now c.args.self.now.user c.args.host.now) (Ok object)) c.in-Some.is c.in_ok-object.ensures.found)))
    (c.kind_of.ensures c.args.self.now.user)

pub returns-in-Some-clause-noted : goal.returns-in-Some-clause-noted
returns-in-Some-clause-noted c = any-noted _ c.find.new.unmet c.kind_of.result c.in_ok-object.ensures.noted
