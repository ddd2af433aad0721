use Rattle.std.proofs.Common.{◌≡◌, ℕ, ◌-◌, ◌≤◌, ◌<◌, ◌⊎◌}
use Rattle.std.specs.FinMap as map
use Rattle.rv_mem.specs.Pages.{HasNoPages}
use Rattle.rv_mem.proofs.table.Table.unmap.Given as goal

abbrev pub invariant-loop-number : goal.invariant-loop-number
invariant-loop-number g l = record {
  low : l.first ≤ l.from;
  high : l.from ≤ l.last;
  gone : HasNoPages l.self l.first l.from;
  others : (q : ℕ) → (q < l.first) ⊎ (l.from ≤ q) → map.get l.self q ≡ map.get l.fn.self q;
}

abbrev pub decreases-loop-number : goal.decreases-loop-number
decreases-loop-number g l = l.last - l.from
