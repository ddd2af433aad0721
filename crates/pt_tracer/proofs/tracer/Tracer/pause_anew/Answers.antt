use Rattle.std.proofs.Common.{◌∙◌}
use Rattle.pt_faker.proofs.StopLemmas.{on_ok}
use Rattle.pt_tracer.proofs.tracer.Tracer.pause_anew.Goals as goal

pub pause_at-requires : goal.pause_at-requires
pause_at-requires g c = record { agrees = c.resume_for.ensures.agrees _ _ c.requires.agrees }

pub returns-clause-tracing : goal.returns-clause-tracing
returns-clause-tracing g c = on_ok c.pause_at.result (λ same. same ∙ c.resume_for.ensures.tracing) c.pause_at.ensures.tracing

pub returns-clause-others : goal.returns-clause-others
returns-clause-others g c =
    on_ok c.pause_at.result (λ keeps. record { keeps = λ q other free. keeps q (c.resume_for.ensures.others.keeps q other free) }) c.pause_at.ensures.others
