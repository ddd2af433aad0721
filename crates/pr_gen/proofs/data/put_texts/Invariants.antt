use Rattle.std.proofs.Common.{◌≡◌, ◌+◌, ◌-◌, ◌≤◌, length, drop}
use Rattle.pr_gen.specs.Steps.{texts_room}
use Rattle.pr_gen.proofs.data.put_texts.Given as goal

-- the data so far, and the room of the texts that are left
abbrev pub invariant-loop-text : goal.invariant-loop-text
invariant-loop-text l = record {
  within : l.k ≤ length l.texts;
  room : length l.out.items + texts_room (drop l.k l.texts) ≡ length l.initial.out.items + texts_room l.texts;
}

abbrev pub decreases-loop-text : goal.decreases-loop-text
decreases-loop-text l = length l.texts - l.k
