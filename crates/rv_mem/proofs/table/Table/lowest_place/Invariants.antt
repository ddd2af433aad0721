use Rattle.std.proofs.Common.{◌≤◌, ◌-◌}
use Rattle.rv_mem.specs.Layout.{layout_of, HasNoPlace}
use Rattle.rv_mem.proofs.table.Table.lowest_place.Given as goal

abbrev pub invariant-loop-place : goal.invariant-loop-place
invariant-loop-place g l = record {
  low : l.from ≤ l.place;
  high : l.place ≤ l.end;
  passed : HasNoPlace (layout_of l.self) l.from l.place l.end l.count;
}

abbrev pub decreases-loop-place : goal.decreases-loop-place
decreases-loop-place g l = l.end - l.place
