use Rattle.std.proofs.Common.{rules, sym, ap, ◌∙◌}
use Rattle.kr_loose.specs.kr_core.Kernel.{Kernel, machine}
use Rattle.kr_loose.specs.kr_turns.Run.{ending_of}
use Rattle.kr_loose.specs.LooseRun.{Loose}
use Rattle.pr_run.specs.Going.{or_spent}
use Rattle.pr_run.proofs.going.LooseGoes.end.Goals as goal

pub end_after-requires : goal.end_after-requires
end_after-requires g c = (search rules, ap (λ (k : Kernel _ _ _ g.row.M). k.whole) c.kernel.ensures ∙ c.requires)

pub returns : goal.returns
returns g c = λ x stands.
    c.end_after.ensures
    ∙ ap (λ (k : Kernel _ _ _ g.row.M). or_spent (ending_of (machine g.P.Places.number k))) c.kernel.ensures
    ∙ ap (λ (l : Loose g.S.Graphed.Part). or_spent (ending_of l.machine)) (sym stands.same)
