use Rattle.std.proofs.Common.{◌≡◌, drop, slice_get}
use Rattle.std.specs.List.{filter}
use Rattle.kr_perform.specs.kr_ops.Meaning.{meaning}
use Rattle.kr_steps.specs.Waiting.{goes_on, ready_processes}
use Rattle.kr_steps.proofs.picking.ready.Given as goal

abbrev pub invariant-loop-at : goal.invariant-loop-at
invariant-loop-at g l = slice_get (ready_processes (meaning l.state)) l.k ≡ slice_get (filter (goes_on (meaning l.state)) (drop l.at (meaning l.state).living)) l.before
