use Rattle.std.proofs.Common.{◌≡◌, ◌≤◌, length}
use Rattle.rv_mem.specs.Pages.{replaced}
use Rattle.rv_mem.proofs.table.Table.replace_all.Given as goal

abbrev pub invariant-loop-page : goal.invariant-loop-page
invariant-loop-page g l = record {
  left : length l.pages.items ≤ length l.fn.pages.items;
  so_far : replaced l.self l.first l.pages.items ≡ replaced l.fn.self l.first l.fn.pages.items;
}

abbrev pub decreases-loop-page : goal.decreases-loop-page
decreases-loop-page g l = length l.pages.items
