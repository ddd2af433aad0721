use Rattle.std.proofs.Common.{◌≡◌, ◌≤◌, ◌+◌, ◌-◌, ◌*◌, ◌<◌, ◌∙◌, sym, ap, arith}
use Rattle.rv_mem.specs.Pages.{marked}
use Rattle.rv_mem.proofs.TableLemmas.{marked_end, marked_step, marked-zero, max_is}
use Rattle.rv_mem.proofs.table.Table.mark_all.Goals as goal

pub returns-in_default : goal.returns-in_default
returns-in_default g c =
    sym (marked_end c.loop-next.self c.loop-next.next c.args.to c.loop-next-test.true (rw c.in_default.is at c.next.ensures.none)) ∙ c.loop-next.invariant.rest

pub loop-next-preserved : goal.loop-next-preserved
loop-next-preserved g c =
    let last : c.in-Some.number * 4096 < c.args.to = omega (arith, c.in-Some.ensures.some.1) in
    let low : c.loop-next.next ≤ c.max-here.result = omega (arith, c.max-here.ensures) in
    let high : c.max-here.result + c.min-count.result ≤ c.args.to = omega (arith, c.max-here.ensures, c.min-count.ensures) in
    record {
      within = high;
      rest = ap (λ m. marked m (c.max-here.result + c.min-count.result) (c.args.to - (c.max-here.result + c.min-count.result))) c.mark.ensures
          ∙ marked_step c.loop-next.self c.loop-next.next c.args.to c.in-Some.number c.max-here.result c.min-count.result low high c.in-Some.ensures.some.2
          (max_is c.loop-next.next (c.in-Some.number * 4096) c.max-here.result c.max-here.ensures)
          ∙ c.loop-next.invariant.rest;
    }

pub returns : goal.returns
returns g c =
    let none : c.args.to - c.loop-next.next ≡ 0 = omega arith in
    sym (ap (marked c.loop-next.self c.loop-next.next) none ∙ marked-zero c.loop-next.self c.loop-next.next) ∙ c.loop-next.invariant.rest
