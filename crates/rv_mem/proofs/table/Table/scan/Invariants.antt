use Rattle.std.proofs.Common.{◌≡◌, ◌+◌, ◌-◌, ◌≤◌, true}
use Rattle.rv_mem.specs.declared.rights.Use.TheVariants.{Read}
use Rattle.rv_mem.specs.Pages.{allows_all, any_marked, bytes_from}
use Rattle.rv_mem.specs.Memory.{text_of, text_reach}
use Rattle.rv_mem.proofs.TextLemmas.{text_past}
use Rattle.rv_mem.proofs.table.Table.scan.Given as goal

abbrev pub invariant-loop-reach : goal.invariant-loop-reach
invariant-loop-reach g l = record {
  within : l.reach ≤ l.max;
  allowed : allows_all l.self l.at l.reach Read ≡ true;
  marked : l.marked ≡ any_marked l.self l.at l.reach;
  reached : text_reach l.self l.at l.max ≡ l.reach + text_reach l.self (l.at + l.reach) (l.max - l.reach);
  text : text_of l.self l.at l.max ≡ text_past (bytes_from l.self l.at l.reach) (text_of l.self (l.at + l.reach) (l.max - l.reach));
}

abbrev pub decreases-loop-reach : goal.decreases-loop-reach
decreases-loop-reach g l = l.max - l.reach
