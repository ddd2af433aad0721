use Rattle.std.proofs.Common.{◌≡◌}
use Rattle.rv_mem.specs.Pages.{allows_all}
use Rattle.rv_mem.proofs.table.Table.allows_all.Given as goal

abbrev pub invariant-loop-left : goal.invariant-loop-left
invariant-loop-left g l = allows_all l.self l.at l.count l.what ≡ allows_all l.self l.next l.left l.what

abbrev pub decreases-loop-left : goal.decreases-loop-left
decreases-loop-left g l = l.left
