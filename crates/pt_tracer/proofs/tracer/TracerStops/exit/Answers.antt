use Rattle.std.proofs.Common.{◌∙◌, ap, subst, sym}
use Rattle.pt_faker.proofs.StopLemmas.{on_ok}
use Rattle.pt_tracer.specs.Agreeing.{AgreesWith}
use Rattle.pt_tracer.specs.Pausing.{IsPausedFor, Pausing}
use Rattle.pt_tracer.specs.Watched.{Tracing, exited}
use Rattle.pt_tracer.proofs.AgreeLemmas.{edited-agrees}
use Rattle.pt_tracer.proofs.tracer.TracerStops.exit.Goals as goal

pub returns-clause-exits : goal.returns-clause-exits
returns-clause-exits g c =
    let t = g.T.Tracee.stopped c.args.t.now in
    on_ok c.leave.result (λ exits. exits ∙ ap (λ (x : Tracing). exited x t) c.resume_for.ensures.tracing) c.leave.ensures.exits

pub returns-clause-agrees : goal.returns-clause-agrees
returns-clause-agrees g c =
    let t = g.T.Tracee.stopped c.args.t.now in
    let u = g.T.Tracee.stopped c.leave.new.t in
    let resumed = c.resume_for.ensures.agrees t.state.tree t.state.user c.requires.agrees in
    let left = subst (λ (p : Pausing). AgreesWith p.walker t.state.tree t.state.user) (sym c.leave.ensures.pausing) resumed in
    on_ok c.leave.result (λ _. edited-agrees c.leave.new.self.pausing.walker t u c.leave.ensures.edits.edits left) c.leave.ensures.exits

pub returns-clause-others : goal.returns-clause-others
returns-clause-others g c =
    on_ok c.leave.result
    (λ _. record { keeps = λ q other free. subst (λ (p : Pausing). IsPausedFor p q) (sym c.leave.ensures.pausing) (c.resume_for.ensures.others.keeps q (λ e. other (e ∙ c.pid-pid.ensures.pid)) free) })
    c.leave.ensures.exits
