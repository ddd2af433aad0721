use Rattle.std.proofs.Common.{arith, sym}
use Rattle.pr_gen.proofs.Bounds.{texts_next, texts_end}
use Rattle.pr_gen.proofs.steps.list_room.Goals as goal

pub text_room-room-requires : goal.text_room-room-requires
text_room-room-requires c =
    let next = texts_next c.args.texts.now c.loop-text.k c.in-Some.text.now (sym c.in-Some.ensures) in
    omega (arith, next.1, c.loop-text.invariant.room, c.requires)

pub loop-text-smaller : goal.loop-text-smaller
loop-text-smaller c =
    let next = texts_next c.args.texts.now c.loop-text.k c.in-Some.text.now (sym c.in-Some.ensures) in
    omega (arith, next.0)

pub loop-text-preserved : goal.loop-text-preserved
loop-text-preserved c =
    let next = texts_next c.args.texts.now c.loop-text.k c.in-Some.text.now (sym c.in-Some.ensures) in
    record {
      within = omega (arith, next.0);
      room = omega (arith, next.1, c.text_room-room.ensures, c.loop-text.invariant.room);
    }

pub returns : goal.returns
returns c = omega (arith, texts_end c.args.texts.now c.loop-text.k (sym c.in_default.ensures), c.loop-text.invariant.room)
