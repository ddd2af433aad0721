use Rattle.std.proofs.Common.{arith, refl, sym, ◌∙◌}
use Rattle.kr_calm.specs.Questions.{row_answers}
use Rattle.kr_calm.proofs.RowLemmas.{all-rows, next-row, no-row, row-below, row-shown, some-row}
use Rattle.kr_calm.proofs.rows.any_row.Goals as goal

pub loop-row-init : goal.loop-row-init
loop-row-init g c = (refl, omega arith)

pub overflow_add-k : goal.overflow_add-k
overflow_add-k g c = let below = row-below (g.P.Places.mounts c.args.places.now) c.loop-row.k _ c.in-Some.ensures in omega (arith, c.requires.few)

pub loop-row-smaller : goal.loop-row-smaller
loop-row-smaller g c = let below = row-below (g.P.Places.mounts c.args.places.now) c.loop-row.k _ c.in-Some.ensures in omega arith

pub returns-then-row_answers : goal.returns-then-row_answers
returns-then-row_answers g c =
    let at = row-shown (g.P.Places.mounts c.args.places.now) c.loop-row.k _ c.in-Some.ensures in
    let yes = sym (c.row_answers.ensures at.0 at.2 (c.requires.points c.loop-row.k at.0 at.1)) ∙ c.if-row_answers.true in
    sym (some-row (row_answers c.args.question c.args.tree.now) (g.P.Places.mounts c.args.places.now) c.loop-row.k at.0 at.1 yes)

pub loop-row-preserved : goal.loop-row-preserved
loop-row-preserved g c =
    let at = row-shown (g.P.Places.mounts c.args.places.now) c.loop-row.k _ c.in-Some.ensures in
    let none = sym (c.row_answers.ensures at.0 at.2 (c.requires.points c.loop-row.k at.0 at.1)) ∙ c.if-row_answers.false in
    next-row (row_answers c.args.question c.args.tree.now) (g.P.Places.mounts c.args.places.now) c.loop-row.k _ at.0 at.1 refl none c.loop-row.invariant.0

pub returns : goal.returns
returns g c =
    sym (all-rows (row_answers c.args.question c.args.tree.now) (g.P.Places.mounts c.args.places.now) c.loop-row.k
    (no-row (g.P.Places.mounts c.args.places.now) c.loop-row.k c.in_default.ensures) c.loop-row.invariant.0)
