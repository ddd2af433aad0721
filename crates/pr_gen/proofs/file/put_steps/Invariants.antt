use Rattle.std.proofs.Common.{◌≡◌, ◌+◌, ◌*◌, ◌≤◌, length, drop}
use Rattle.pr_gen.specs.Draft.{IsOpen}
use Rattle.pr_gen.specs.Steps.{AreEarlier, room}
use Rattle.pr_gen.proofs.file.put_steps.Given as goal

-- at most 89 instructions and one label for each step so far; the others are still to come
abbrev pub invariant-loop-place : goal.invariant-loop-place
invariant-loop-place l = record {
  begun : 20 ≤ l.code.size;
  size : l.code.size ≤ 20 + 356 * l.place;
  some_open : IsOpen l.code.places;
  labels : length l.code.places ≤ 3 + l.place;
  earlier : AreEarlier l.place (drop l.place l.steps);
  texts : l.at + room (drop l.place l.steps) ≡ 4136 + room l.steps;
}
