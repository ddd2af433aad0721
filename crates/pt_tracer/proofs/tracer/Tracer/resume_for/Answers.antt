use Rattle.std.proofs.Common.{◌∙◌, ap, subst, sym}
use Rattle.law_steady.specs.pt_bind.Binding.{rows_of}
use Rattle.pt_tracer.specs.Agreeing.{AgreesWith}
use Rattle.pt_tracer.specs.Keeping.{Keeping}
use Rattle.pt_tracer.specs.Pausing.{IsPausedFor}
use Rattle.pt_tracer.proofs.tracer.Tracer.resume_for.Goals as goal

pub returns-clause-tracing : goal.returns-clause-tracing
returns-clause-tracing c =
    let own = c.self.inside in
    (λ i. record { bindings = rows_of (c.resume_for.ensures.table i); tags = own.tags; user = own.user; identities = own.identities; pending = own.calls }) ∙ ap (λ (x : Keeping). x.tracing) c.self.view_is

pub returns-clause-agrees : goal.returns-clause-agrees
returns-clause-agrees c = λ tree user before. c.resume_for.ensures.agrees tree user (subst (λ (x : Keeping). AgreesWith x.pausing.walker tree user) (sym c.self.view_is) before)

pub returns-clause-others : goal.returns-clause-others
returns-clause-others c = record { keeps = λ q other free. c.resume_for.ensures.others.keeps q other (subst (λ (x : Keeping). IsPausedFor x.pausing q) (sym c.self.view_is) free) }
