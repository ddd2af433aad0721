use Rattle.std.proofs.Common.{◌≡◌, ◌+◌, ◌-◌, ◌≤◌, length, drop}
use Rattle.pr_gen.specs.Steps.{texts_room, list_room}
use Rattle.pr_gen.proofs.steps.list_room.Given as goal

-- the room so far, and that of the texts that are left
abbrev pub invariant-loop-text : goal.invariant-loop-text
invariant-loop-text l = record {
  within : l.k ≤ length l.texts;
  room : l.room + texts_room (drop l.k l.texts) ≡ list_room l.texts;
}

abbrev pub decreases-loop-text : goal.decreases-loop-text
decreases-loop-text l = length l.texts - l.k
