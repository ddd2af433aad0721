use Rattle.std.proofs.Common.{◌≡◌, ◌-◌, ◌≤◌}
use Rattle.rv_mem.specs.Pages.{marked}
use Rattle.rv_mem.proofs.table.Table.mark_all.Given as goal

abbrev pub invariant-loop-next : goal.invariant-loop-next
invariant-loop-next g l = record {
  within : l.next ≤ l.to;
  rest : marked l.self l.next (l.to - l.next) ≡ marked l.fn.self l.from (l.to - l.from);
}

abbrev pub decreases-loop-next : goal.decreases-loop-next
decreases-loop-next g l = l.to - l.next
