use Rattle.std.proofs.Common.{◌≡◌, ◌-◌, ◌≤◌, take, length}
use Rattle.rv_mem.specs.Pages.{bytes_from, any_marked}
use Rattle.rv_mem.proofs.table.Table.read_all.Given as goal

abbrev pub invariant-loop-done : goal.invariant-loop-done
invariant-loop-done g l = record {
  within : l.done ≤ length l.into;
  bytes : take l.done l.into ≡ bytes_from l.self l.at l.done;
  marked : l.marked ≡ any_marked l.self l.at l.done;
}

abbrev pub decreases-loop-done : goal.decreases-loop-done
decreases-loop-done g l = length l.initial.into - l.done
