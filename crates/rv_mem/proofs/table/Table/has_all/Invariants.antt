use Rattle.std.proofs.Common.{◌≡◌, true}
use Rattle.rv_mem.specs.Pages.{has_pages}
use Rattle.rv_mem.proofs.table.Table.has_all.Given as goal

abbrev pub invariant-loop-k : goal.invariant-loop-k
invariant-loop-k g l = has_pages l.self l.first l.k ≡ true
