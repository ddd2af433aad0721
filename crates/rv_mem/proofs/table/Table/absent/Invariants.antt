use Rattle.std.proofs.Common.{◌≡◌, ℕ, ◌+◌, ◌≤◌, ◌<◌, true, false, nat_eq}
use Rattle.std.specs.FinMap as map
use Rattle.std.specs.List.{list_any}
use Rattle.rv_mem.proofs.table.Table.absent.Given as goal

abbrev pub invariant-loop-k : goal.invariant-loop-k
invariant-loop-k g l = record {
  absent : (q : ℕ) → list_any (nat_eq q) l.absent.items ≡ true → (map.contains_key l.self q ≡ false) × (l.first ≤ q) × (q < l.first + l.k);
  all : (q : ℕ) → l.first ≤ q → q < l.first + l.k → list_any (nat_eq q) l.absent.items ≡ false → map.contains_key l.self q ≡ true;
}
