use Rattle.std.proofs.Common.{arith, sym}
use Rattle.pr_gen.proofs.Bounds.{texts_next}
use Rattle.pr_gen.proofs.data.put_addresses.Goals as goal

pub text_room-at-requires : goal.text_room-at-requires
text_room-at-requires c =
    let next = texts_next c.args.texts.now c.loop-at.k c.in-Some.text.now (sym c.in-Some.ensures) in
    omega (arith, next.1, c.loop-at.invariant.room, c.requires)

pub loop-at-smaller : goal.loop-at-smaller
loop-at-smaller c =
    let next = texts_next c.args.texts.now c.loop-at.k c.in-Some.text.now (sym c.in-Some.ensures) in
    omega (arith, next.0)

pub loop-at-preserved : goal.loop-at-preserved
loop-at-preserved c =
    let next = texts_next c.args.texts.now c.loop-at.k c.in-Some.text.now (sym c.in-Some.ensures) in
    record {
      within = omega (arith, next.0);
      size = omega (arith, c.in_ok-put_address.ensures, c.loop-at.invariant.size);
      room = omega (arith, next.1, c.text_room-at.ensures, c.loop-at.invariant.room);
    }
