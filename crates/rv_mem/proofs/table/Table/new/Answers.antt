use Rattle.std.proofs.Common.{refl}
use Rattle.rv_mem.proofs.PlaceLemmas.{AreNumbered-empty, pages_at-empty}
use Rattle.rv_mem.proofs.table.Table.new.Goals as goal

pub invariant_of-result : goal.invariant_of-result
invariant_of-result g c = rw (c.new-places.ensures.empty, c.new-numbers.ensures.items, c.new-pages.ensures) (AreNumbered-empty, refl)

pub returns : goal.returns
returns g c = rw c.new-places.ensures.empty (pages_at-empty _)
