use Rattle.std.proofs.Common.{◌≡◌, ◌+◌, ◌≤◌}
use Rattle.std.specs.FinMap as map
use Rattle.rv_mem.specs.declared.rights.Rights.{Rights}
use Rattle.rv_mem.specs.Pages.{mapped}
use Rattle.rv_mem.proofs.table.Table.count_absent.Given as goal

abbrev pub invariant-loop-k : goal.invariant-loop-k
invariant-loop-k g l = record {
  counted : (rights : Rights) → l.absent + map.len l.self ≡ map.len (mapped l.self l.first l.k rights);
  few : l.absent ≤ l.limit;
}
