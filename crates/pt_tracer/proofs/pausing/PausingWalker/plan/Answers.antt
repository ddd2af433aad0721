use Rattle.std.proofs.Common.{◌∙◌, subst, sym}
use Rattle.pt_tracer.specs.Agreeing.{AgreesWith, WalksAt}
use Rattle.pt_tracer.specs.Pausing.{Pausing}
use Rattle.pt_tracer.proofs.pausing.PausingWalker.plan.Goals as goal

pub plan-requires : goal.plan-requires
plan-requires g c =
    let t = g.T.Tracee.stopped c.args.t.now in
    record { agrees = subst (λ (x : Pausing). AgreesWith x.walker t.state.tree t.state.user) (sym c.self.view_is) c.requires.agrees }

pub invariant_of-self : goal.invariant_of-self
invariant_of-self g c = record { counts = c.plan.ensures.walker.pauses ∙ c.self.invariant.counts }

pub returns-clause-walks : goal.returns-clause-walks
returns-clause-walks g c = subst (λ (x : Pausing). WalksAt (g.T.Tracee.stopped c.args.t.now) x.walker c.plan.new.walker) c.self.view_is c.plan.ensures.walker
