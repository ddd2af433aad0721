use Rattle.std.proofs.Common.{arith, sym}
use Rattle.pr_gen.proofs.Bounds.{texts_next, texts_end, count-bound}
use Rattle.pr_gen.proofs.data.put_texts.Goals as goal

pub loop-text-smaller : goal.loop-text-smaller
loop-text-smaller c =
    let next = texts_next c.args.texts.now c.loop-text.k c.in-Some.text.now (sym c.in-Some.ensures) in
    omega (arith, next.0)

pub overflow_add-k : goal.overflow_add-k
overflow_add-k c =
    let next = texts_next c.args.texts.now c.loop-text.k c.in-Some.text.now (sym c.in-Some.ensures) in
    omega (arith, next.0, count-bound c.args.texts.now, c.requires)

pub loop-text-preserved : goal.loop-text-preserved
loop-text-preserved c =
    let next = texts_next c.args.texts.now c.loop-text.k c.in-Some.text.now (sym c.in-Some.ensures) in
    record {
      within = omega (arith, next.0);
      room = omega (arith, next.1, c.in_ok-put_text.ensures, c.loop-text.invariant.room);
    }

pub returns : goal.returns
returns c = omega (arith, texts_end c.args.texts.now c.loop-text.k (sym c.in_default.ensures), c.loop-text.invariant.room)
