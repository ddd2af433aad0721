use Rattle.std.proofs.Common.{◌∙◌, sym, ap, arith}
use Rattle.std.specs.FinMap as map
use Rattle.rv_mem.proofs.TableLemmas.{mapped-zero, counted_more, counted_same, counted_past}
use Rattle.rv_mem.proofs.table.Table.count_absent.Goals as goal
use Rattle.rv_mem.proofs.table.Table.count_absent.Goals.{then-not-contains+else-absent-limit, else-not-contains}

pub loop-k-init : goal.loop-k-init
loop-k-init g c = record {
  counted = λ rights. omega (arith, ap map.len (mapped-zero c.args.self.now c.args.first rights));
  few = omega arith;
}

pub returns-then-absent-limit : goal.returns-then-absent-limit
returns-then-absent-limit g c rights =
    let past = counted_past c.args.self.now c.args.first c.loop-k.k c.args.count c.loop-k.absent rights c.loop-k-test.true (sym c.contains.ensures ∙ c.if-not-contains.true) (c.loop-k.invariant.counted rights) in
    omega (arith, past, c.if-absent-limit.true)

pub loop-k-preserved : goal.loop-k-preserved
loop-k-preserved g c =
    elim c.if-not-contains.branch [
      | then-not-contains+else-absent-limit w ↦ record {
        counted = λ rights. omega (arith, w.absent-is, counted_more c.args.self.now c.args.first c.loop-k.k c.loop-k.absent rights (sym c.contains.ensures ∙ w.if-not-contains.true) (c.loop-k.invariant.counted rights));
        few = omega arith;
      }
      | else-not-contains w ↦ record {
        counted = λ rights. omega (arith, w.absent-is, counted_same c.args.self.now c.args.first c.loop-k.k c.loop-k.absent rights (sym c.contains.ensures ∙ w.if-not-contains.false) (c.loop-k.invariant.counted rights));
        few = omega arith;
      }
    ]
