use Rattle.std.proofs.Common.{◌≡◌, ◌≤◌, true}
use Rattle.core_tests.proofs.loosely.run.Given as goal

abbrev pub invariant-loop-made : goal.invariant-loop-made
invariant-loop-made g l = (l.loose.kernel.whole ≡ true) × (l.loose.kernel.calls ≤ l.made)
