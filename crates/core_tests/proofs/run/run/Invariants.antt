use Rattle.std.proofs.Common.{◌≡◌, ◌≤◌, [], true}
use Rattle.core_tests.proofs.run.run.Given as goal

abbrev pub invariant-loop-turn : goal.invariant-loop-turn
invariant-loop-turn g l = (l.kernel.whole ≡ true) × (l.kernel.turns ≡ l.turn) × (l.kernel.calls ≤ l.turn) × (l.kernel.paused ≡ [])
