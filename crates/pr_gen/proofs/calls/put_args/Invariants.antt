use Rattle.std.proofs.Common.{◌≡◌, ◌+◌, ◌*◌, ◌≤◌, drop}
use Rattle.pr_gen.specs.Steps.{room_in}
use Rattle.pr_gen.proofs.calls.put_args.Given as goal

-- at most twelve instructions for each argument so far; the texts of the others are still to come
abbrev pub invariant-loop-i : goal.invariant-loop-i
invariant-loop-i l = record {
  kept : l.initial.code.size ≤ l.code.size;
  size : l.code.size ≤ l.initial.code.size + 48 * l.i;
  places : l.code.places ≡ l.initial.code.places;
  texts : l.next + room_in (drop l.i l.args) ≡ l.at + room_in l.args;
}
