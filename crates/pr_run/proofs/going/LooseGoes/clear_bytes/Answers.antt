use Rattle.std.proofs.Common.{◌∙◌}
use Rattle.pr_run.proofs.SteppingLemmas.{same-forgotten}
use Rattle.pr_run.proofs.going.LooseGoes.clear_bytes.Goals as goal

pub returns-clause-forgets : goal.returns-clause-forgets
returns-clause-forgets g c = λ x stands. record {
  steps = stands.steps;
  behind = c.clear_bytes.ensures.behind x.0 stands.steps stands.behind;
  same = same-forgotten g.P.Places.number g.S.Graphed.part g.S.Stops.asks g.P.Places.mounts c.args.self.now.kernel c.clear_bytes.new.self.kernel stands.steps x.1 c.clear_bytes.ensures.clears stands.same;
}

pub returns-clause-whole : goal.returns-clause-whole
returns-clause-whole g c = λ whole. c.clear_bytes.ensures.clears.whole ∙ whole

pub returns-clause-fixed : goal.returns-clause-fixed
returns-clause-fixed g c = c.clear_bytes.ensures.clears.places

pub returns-clause-made : goal.returns-clause-made
returns-clause-made g c = c.clear_bytes.ensures.clears.calls
