use Rattle.std.proofs.Common.{◌≡◌, ◌≢◌, ℕ, ◌+◌, ◌<◌, true, Some}
use Rattle.std.specs.FinMap as map
use Rattle.rv_mem.specs.Page.{fresh_page}
use Rattle.rv_mem.proofs.table.Table.map.Given as goal

abbrev pub invariant-loop-k : goal.invariant-loop-k
invariant-loop-k g l = record {
  there : (j : ℕ) → j < l.count → map.contains_key l.self (l.first + j) ≡ true;
  outside : (q : ℕ) → ((j : ℕ) → j < l.count → q ≢ l.first + j) → map.get l.self q ≡ map.get l.fn.self q;
  fresh : (j : ℕ) → j < l.k → map.get l.self (l.first + j) ≡ Some (fresh_page l.rights);
}
