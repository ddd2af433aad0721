use Rattle.std.proofs.Common.{◌≡◌, ◌≤◌, true}
use Rattle.core_tests.proofs.stepped.stepped.Given as goal

abbrev pub invariant-loop-made : goal.invariant-loop-made
invariant-loop-made g l = (l.kernel.whole ≡ true) × (l.kernel.calls ≤ l.made)
