use Rattle.std.proofs.Common.{◌+◌, arith}
use Rattle.rv_mem.specs.Pages.{HasNoPages}
use Rattle.rv_mem.proofs.LayoutLemmas.{free_from, no_place_past}
use Rattle.rv_mem.proofs.table.Table.lowest_place.Goals as goal

pub returns-in_default-clause-some : goal.returns-in_default-clause-some
returns-in_default-clause-some g c =
    let none : HasNoPages c.args.self.now c.loop-place.place (c.loop-place.place + c.args.count) = rw c.in_default.is at c.next.ensures.none in
    record {
      low = c.loop-place.invariant.low;
      high = c.loop-place-test.true;
      free = free_from c.args.self.now c.loop-place.place (c.loop-place.place + c.args.count) c.args.count (omega arith) none;
      lowest = c.loop-place.invariant.passed;
    }

pub loop-place-preserved : goal.loop-place-preserved
loop-place-preserved g c = record {
  low = omega (arith, c.loop-place.invariant.low, c.in-Some.ensures.some.0);
  high = omega (arith, c.in-Some.ensures.some.1, c.loop-place-test.true);
  passed = no_place_past c.args.self.now c.args.from c.loop-place.place c.in-Some.number c.args.end c.args.count c.loop-place.invariant.passed c.in-Some.ensures.there c.in-Some.ensures.some.1;
}
