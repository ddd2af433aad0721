use Rattle.std.proofs.Common.{◌+◌, ◌∷◌, [], drop, arith, ap, sym}
use Rattle.pr_gen.specs.declared.conditions.Budget.{Budget}
use Rattle.std.proofs.lemmas.List.{drop_all}
use Rattle.pr_gen.proofs.Bounds.{texts_next, texts_passed}
use Rattle.pr_gen.proofs.Budgets.{goes_more, goes_wrong, goes_all, next_text}
use Rattle.pr_gen.proofs.conditions.Budget.after_list.Goals as goal

pub returns-in_err-left-clause-none : goal.returns-in_err-left-clause-none
returns-in_err-left-clause-none c =
    let k = c.loop-text.k in
    rw c.from_residual.ensures (goes_wrong c.args.self c.loop-text.left c.args.list.now (drop k c.args.list.now) (c.in-Some.text.now ∷ []) (drop (k + 1) c.args.list.now) c.loop-text.invariant.goes (next_text c.args.list.now k c.in-Some.text.now (sym c.in-Some.ensures)) c.in_err-left.ensures.none)

pub overflow_add-k : goal.overflow_add-k
overflow_add-k c = omega (arith, c.loop-text.invariant.counted, c.in_ok-left.ensures.some.0.count)

pub loop-text-smaller : goal.loop-text-smaller
loop-text-smaller c =
    let next = texts_next c.args.list.now c.loop-text.k c.in-Some.text.now (sym c.in-Some.ensures) in
    omega (arith, next.0)

pub loop-text-preserved : goal.loop-text-preserved
loop-text-preserved c =
    let k = c.loop-text.k in
    let next = texts_next c.args.list.now k c.in-Some.text.now (sym c.in-Some.ensures) in
    record {
      within = omega (arith, next.0);
      counted = omega (arith, c.in_ok-left.ensures.some.0.count, ap (λ (b : Budget). b.texts) c.in_ok-left.ensures.some.1, c.loop-text.invariant.counted);
      goes = goes_more c.args.self c.loop-text.left c.in_ok-left.left c.args.list.now (drop k c.args.list.now) (c.in-Some.text.now ∷ []) (drop (k + 1) c.args.list.now) c.loop-text.invariant.goes (next_text c.args.list.now k c.in-Some.text.now (sym c.in-Some.ensures)) c.in_ok-left.ensures.some;
    }

pub returns-clause-some : goal.returns-clause-some
returns-clause-some c =
    goes_all c.args.self c.loop-text.left c.args.list.now (drop c.loop-text.k c.args.list.now) c.loop-text.invariant.goes (drop_all c.loop-text.k c.args.list.now (texts_passed c.args.list.now c.loop-text.k (sym c.in_default.ensures)))
