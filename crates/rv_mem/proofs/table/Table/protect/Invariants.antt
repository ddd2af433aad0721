use Rattle.std.proofs.Common.{◌≡◌}
use Rattle.rv_mem.specs.Pages.{protected}
use Rattle.rv_mem.proofs.table.Table.protect.Given as goal

abbrev pub invariant-loop-k : goal.invariant-loop-k
invariant-loop-k g l = l.self ≡ protected l.fn.self l.first l.k l.rights
