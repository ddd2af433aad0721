use Rattle.std.proofs.Common.{◌∙◌, ap, subst, sym}
use Rattle.pt_tracer.specs.Agreeing.{AgreesWith}
use Rattle.pt_tracer.specs.Pausing.{IsPausedFor, Pausing}
use Rattle.pt_tracer.specs.Watched.{Tracing, gone}
use Rattle.pt_tracer.proofs.tracer.TracerStops.gone.Goals as goal

pub returns-clause-forgets : goal.returns-clause-forgets
returns-clause-forgets c = c.forget.ensures.forgets ∙ ap (λ (x : Tracing). gone x c.args.pid) c.resume_for.ensures.tracing

pub returns-clause-agrees : goal.returns-clause-agrees
returns-clause-agrees c = λ tree user agrees. subst (λ (p : Pausing). AgreesWith p.walker tree user) (sym c.forget.ensures.pausing) (c.resume_for.ensures.agrees tree user agrees)

pub returns-clause-others : goal.returns-clause-others
returns-clause-others c = record { keeps = λ q other free. subst (λ (p : Pausing). IsPausedFor p q) (sym c.forget.ensures.pausing) (c.resume_for.ensures.others.keeps q other free) }
