use Rattle.std.proofs.Common.{ℕ, subst}
use Rattle.pr_words.specs.pr_base.declared.path.WalkMode.TheVariants.{LookLink}
use Rattle.kr_first.specs.kr_tree.declared.place.Place.{Place}
use Rattle.kr_first.specs.kr_view.Answers.{IsAnswer, IsReached}
use Rattle.kr_first.specs.kr_view.View.{plain}
use Rattle.kr_first.specs.kr_view.Walk.{place_walk}
use Rattle.kr_first.specs.Starting.{around}
use Rattle.kr_hostview.specs.OnHost.{number}
use Rattle.pt_first.proofs.peeks.Looker.walked.Goals as goal

pub returns-clause-answer : goal.returns-clause-answer
returns-clause-answer c = subst (λ (base : Place ℕ). IsAnswer number (place_walk (around plain c.args.self.now.tree.now c.args.self.now.user) LookLink base c.args.host.now).answer c.resolve.result) c.root.ensures c.resolve.ensures.answer

pub returns-clause-reach : goal.returns-clause-reach
returns-clause-reach c =
    subst (λ (base : Place ℕ). IsReached (around plain c.args.self.now.tree.now c.args.self.now.user) LookLink (place_walk (around plain c.args.self.now.tree.now c.args.self.now.user) LookLink base c.args.host.now) c.args.reach.now c.resolve.new.reach c.resolve.result)
    c.root.ensures c.resolve.ensures.reach
