use Rattle.std.proofs.Common.{arith, refl, ◌∙◌}
use Rattle.kr_start.proofs.PinLemmas.{source-there, next-pinned, row-below, no-row, pinned-all}
use Rattle.kr_start.proofs.first.pin.Goals as goal

pub loop-row-init : goal.loop-row-init
loop-row-init g c = (refl, omega arith)

pub hold_once-requires : goal.hold_once-requires
hold_once-requires g c = source-there (g.P.Places.mounts c.args.places.now) c.args.tree.now c.loop-row.tree c.requires.stands c.loop-row.k c.loop-row.k _ c.in-Some.ensures c.loop-row.invariant.0

pub overflow_add-k : goal.overflow_add-k
overflow_add-k g c = let below = row-below (g.P.Places.mounts c.args.places.now) c.loop-row.k _ c.in-Some.ensures in omega (arith, c.requires.few)

pub loop-row-smaller : goal.loop-row-smaller
loop-row-smaller g c = let below = row-below (g.P.Places.mounts c.args.places.now) c.loop-row.k _ c.in-Some.ensures in omega arith

pub loop-row-preserved : goal.loop-row-preserved
loop-row-preserved g c = next-pinned (g.P.Places.mounts c.args.places.now) c.loop-row.k _ c.args.tree.now c.loop-row.tree c.hold_once.new.tree _ c.in-Some.ensures c.loop-row.invariant.0 c.hold_once.ensures refl

pub returns : goal.returns
returns g c = c.loop-row.invariant.0 ∙ pinned-all (g.P.Places.mounts c.args.places.now) c.loop-row.k c.args.tree.now (no-row (g.P.Places.mounts c.args.places.now) c.loop-row.k c.in_default.ensures)
