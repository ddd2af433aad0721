use Rattle.std.proofs.Common.{sym, ap, ◌∙◌}
use Rattle.kr_loose.specs.kr_turns.Run.{after_put}
use Rattle.kr_loose.specs.kr_turns.Turn.{Machine}
use Rattle.pr_run.proofs.GoingLemmas.{between-cleared}
use Rattle.pr_run.proofs.TurnLemmas.{forgotten}
use Rattle.pr_run.proofs.going.KernelGoes.clear_bytes.Goals as goal

pub returns-clause-forgets : goal.returns-clause-forgets
returns-clause-forgets g c = λ x is.
    ap (λ (m : Machine g.S.Graphed.Part). after_put m) is ∙ sym (forgotten g.P.Places.number g.S.Graphed.part c.args.self.now c.clear_bytes.new.self c.clear_bytes.ensures)

pub returns-clause-whole : goal.returns-clause-whole
returns-clause-whole g c = λ is. between-cleared g.P.Places.number c.args.self.now c.clear_bytes.new.self c.clear_bytes.ensures is

pub returns-clause-fixed : goal.returns-clause-fixed
returns-clause-fixed g c = c.clear_bytes.ensures.places
