use Rattle.std.proofs.Common.{◌≡◌, ℕ, true, false, nat_eq, take}
use Rattle.std.specs.FinMap as map
use Rattle.std.specs.List.{list_any}
use Rattle.rv_mem.proofs.table.Table.add_all.Given as goal

abbrev pub invariant-loop-number : goal.invariant-loop-number
invariant-loop-number g l = record {
  added : (q : ℕ) → list_any (nat_eq q) (take l.number-index l.numbers) ≡ true → map.contains_key l.self q ≡ true;
  others : (q : ℕ) → list_any (nat_eq q) (take l.number-index l.numbers) ≡ false → map.get l.self q ≡ map.get l.fn.self q;
}
