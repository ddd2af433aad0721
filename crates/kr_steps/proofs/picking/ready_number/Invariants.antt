use Rattle.std.proofs.Common.{◌≡◌, ◌+◌, ◌≤◌, drop, length}
use Rattle.std.specs.List.{filter}
use Rattle.kr_perform.specs.kr_ops.Meaning.{meaning}
use Rattle.kr_steps.specs.Waiting.{goes_on, ready_processes}
use Rattle.kr_steps.proofs.picking.ready_number.Given as goal

abbrev pub invariant-loop-at : goal.invariant-loop-at
invariant-loop-at g l =
    (l.number + length (filter (goes_on (meaning l.state)) (drop l.at (meaning l.state).living)) ≡ length (ready_processes (meaning l.state))) × (l.number ≤ l.at)
