use Rattle.std.proofs.Common.{◌≡◌, ◌+◌, length, drop}
use Rattle.pr_gen.specs.Steps.{room}
use Rattle.pr_gen.proofs.data.data_of.Given as goal

-- the data so far, and the room of the steps that are left
abbrev pub invariant-loop-step : goal.invariant-loop-step
invariant-loop-step l = length l.data.items + room (drop l.step-index l.steps) ≡ 6184 + room l.steps
