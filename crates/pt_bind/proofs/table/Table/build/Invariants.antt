use Rattle.std.proofs.Common.{◌≡◌, take}
use Rattle.pt_bind.specs.Kept.{IsIndex}
use Rattle.pt_bind.proofs.table.Table.build.Given as goal

abbrev pub invariant-loop-bound : goal.invariant-loop-bound
invariant-loop-bound l = (l.rows.items ≡ take l.bound-index l.bounds) × IsIndex l.rows.items l.by_location
