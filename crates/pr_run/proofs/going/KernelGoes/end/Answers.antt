use Rattle.std.proofs.Common.{sym, ap, ◌∙◌}
use Rattle.kr_loose.specs.kr_turns.Run.{ending_of}
use Rattle.kr_loose.specs.kr_turns.Turn.{Machine}
use Rattle.pr_run.specs.Going.{or_spent}
use Rattle.pr_run.proofs.going.KernelGoes.end.Goals as goal

pub returns : goal.returns
returns g c = λ x is. c.end_after.ensures ∙ ap (λ (m : Machine g.S.Graphed.Part). or_spent (ending_of m)) (sym is)
