use Rattle.std.proofs.Common.{ap, ◌∙◌}
use Rattle.kr_loose.specs.kr_core.Kernel.{Kernel, machine}
use Rattle.pr_run.proofs.going.LooseGoes.err.Goals as goal

pub returns : goal.returns
returns g c = c.err.ensures ∙ ap (λ (k : Kernel _ _ _ g.row.M). (machine g.P.Places.number k).state.err) c.kernel.ensures
