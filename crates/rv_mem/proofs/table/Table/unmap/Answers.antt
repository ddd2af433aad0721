use Rattle.std.proofs.Common.{arith}
use Rattle.rv_mem.proofs.TableLemmas.{none_up_to, others_up_to, unmapped_at}
use Rattle.rv_mem.proofs.table.Table.unmap.Goals as goal

pub loop-number-preserved : goal.loop-number-preserved
loop-number-preserved g c = record {
  low = omega (arith, c.in-Some.ensures.some.0);
  high = omega (arith, c.in-Some.ensures.some.1);
  gone = rw c.remove.ensures (none_up_to c.loop-number.self c.args.first c.loop-number.from c.in-Some.number c.loop-number.invariant.gone c.in-Some.ensures.some.2);
  others = rw c.remove.ensures (others_up_to c.loop-number.self c.args.self.now c.args.first c.loop-number.from c.in-Some.number
      (omega (arith, c.in-Some.ensures.some.0)) c.in-Some.ensures.some.0 c.loop-number.invariant.others);
}

pub returns : goal.returns
returns g c =
    unmapped_at c.args.self.now c.loop-number.self c.args.first c.args.count c.loop-number.from c.loop-number.invariant.gone (rw c.in_default.is at c.next.ensures.none) c.loop-number.invariant.high c.loop-number.invariant.others
