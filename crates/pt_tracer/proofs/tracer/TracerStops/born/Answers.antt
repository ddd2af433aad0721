use Rattle.std.proofs.Common.{subst, sym}
use Rattle.pt_faker.proofs.StopLemmas.{on_ok}
use Rattle.pt_tracer.specs.Agreeing.{AgreesWith}
use Rattle.pt_tracer.specs.Pausing.{IsPausedFor, Pausing}
use Rattle.pt_tracer.proofs.tracer.TracerStops.born.Goals as goal

pub returns-clause-agrees : goal.returns-clause-agrees
returns-clause-agrees c = on_ok c.bear.result (λ _ tree user agrees. subst (λ (p : Pausing). AgreesWith p.walker tree user) (sym c.bear.ensures.pausing) agrees) c.bear.ensures.bears

pub returns-clause-free : goal.returns-clause-free
returns-clause-free c = on_ok c.bear.result (λ _ pid free. subst (λ (p : Pausing). IsPausedFor p pid) (sym c.bear.ensures.pausing) free) c.bear.ensures.bears
