use Rattle.std.proofs.Common.{subst, sym}
use Rattle.pt_faker.specs.Stopping.{Stopped}
use Rattle.pt_tracer.specs.Agreeing.{AgreesWith, WalksAt}
use Rattle.pt_tracer.proofs.AgreeLemmas.{walks-then}
use Rattle.pt_tracer.proofs.planning.Planner.plan_for.Goals as goal

pub rewritten-requires : goal.rewritten-requires
rewritten-requires g c = record { agrees = subst (λ (s : Stopped). AgreesWith c.answered.new.walker s.state.tree s.state.user) (sym c.answered.ensures.process.same) c.answered.ensures.walker.agrees }

pub returns-clause-walker : goal.returns-clause-walker
returns-clause-walker g c =
    let behind = subst (λ (s : Stopped). WalksAt s c.answered.new.walker c.rewritten.new.walker) c.answered.ensures.process.same c.rewritten.ensures.walker in
    walks-then c.args.walker.now c.answered.new.walker c.rewritten.new.walker (g.T.Tracee.stopped c.args.t.now) c.answered.ensures.walker behind
