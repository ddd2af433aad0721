use Rattle.std.proofs.Common.{drop}
use Rattle.pr_gen.specs.Steps.{AreEarlier}
use Rattle.pr_gen.proofs.conditions.are_earlier.Given as goal

-- what holds of the steps that are left holds of all, and back
abbrev pub invariant-loop-place : goal.invariant-loop-place
invariant-loop-place l = record {
  left : AreEarlier 0 l.steps → AreEarlier l.place (drop l.place l.steps);
  all : AreEarlier l.place (drop l.place l.steps) → AreEarlier 0 l.steps;
}
