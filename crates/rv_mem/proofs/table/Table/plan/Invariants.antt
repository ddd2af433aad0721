use Rattle.std.proofs.Common.{◌≡◌, ◌/◌, ◌-◌, ◌≤◌, take, length}
use Rattle.rv_mem.specs.Pages.{written, replaced}
use Rattle.rv_mem.proofs.PlanLemmas.{IsPlanned}
use Rattle.rv_mem.proofs.table.Table.plan.Given as goal

abbrev pub invariant-loop-done : goal.invariant-loop-done
invariant-loop-done g l = record {
  within : l.done ≤ length l.bytes;
  pages : replaced l.self (l.at / 4096) l.pages.items ≡ written l.self l.at (take l.done l.bytes);
  place : IsPlanned l.at l.done (length l.bytes) (length l.pages.items);
}

abbrev pub decreases-loop-done : goal.decreases-loop-done
decreases-loop-done g l = length l.bytes - l.done
