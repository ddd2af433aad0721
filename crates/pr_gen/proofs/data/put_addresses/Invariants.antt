use Rattle.std.proofs.Common.{◌≡◌, ◌+◌, ◌-◌, ◌*◌, ◌≤◌, length, drop}
use Rattle.pr_gen.specs.Steps.{texts_room}
use Rattle.pr_gen.proofs.data.put_addresses.Given as goal

-- one address for each text so far, and the room of the texts that are left
abbrev pub invariant-loop-at : goal.invariant-loop-at
invariant-loop-at l = record {
  within : l.k ≤ length l.texts;
  size : length l.out.items ≡ length l.initial.out.items + 8 * l.k;
  room : l.at + texts_room (drop l.k l.texts) ≡ l.initial.at + texts_room l.texts;
}

abbrev pub decreases-loop-at : goal.decreases-loop-at
decreases-loop-at l = length l.texts - l.k
