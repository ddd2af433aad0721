use Rattle.std.specs.Prelude.{◌↔◌}
use Rattle.kr_tree.specs.Lawful.{IsBelow}
use Rattle.kr_tree.proofs.BelowLemmas.{HasSteps}
use Rattle.kr_tree.proofs.tree.Tree.is_below.Given as goal

abbrev pub invariant-loop-step : goal.invariant-loop-step
invariant-loop-step l = record {
  same : IsBelow l.self l.top l.dir ↔ IsBelow l.self l.top l.at;
  steps : HasSteps l.self l._step l.at;
}
