use Rattle.std.proofs.Common.{◌≡◌, ◌<◌, ◌-◌, ◌∙◌, ap, sym, length, arith}
use Rattle.std.specs.Prelude.{slice_index_or}
use Rattle.std.specs.Vec.{vec_len}
use Rattle.rv_mem.specs.Marks.{kept_marks}
use Rattle.rv_mem.proofs.PageLemmas.{kept_marks-none}
use Rattle.rv_mem.proofs.PageListLemmas.{changed-set, marks_at-here, marks_at-past}
use Rattle.rv_mem.proofs.mark_list.remove.Goals as goal

pub returns-then-last-len-clause-moved : goal.returns-then-last-len-clause-moved
returns-then-last-len-clause-moved g c l =
    let ms = c.args.all.now.items in
    let ns = c.swap_remove-marks.new.self.items in
    let d = c.swap_remove-marks.result in
    let past = c.if-last-len.true in
    let size : vec_len c.args.all.now - 1 ≡ c.args.last = omega (arith, past, c.len.ensures, c.args.all.now.ok.0, c.requires.few) in
    let low : c.args.place < length ns = omega (arith, l, past, c.len.ensures, c.swap_remove-marks.ensures.len, c.swap_remove-marks.new.self.ok.0) in
    let high : c.args.last < length ms = omega (arith, past, c.len.ensures, c.args.all.now.ok.0) in
    marks_at-here g.row.MARKED ns c.args.place d low
    ∙ ap (kept_marks g.row.MARKED) (c.swap_remove-marks.ensures.by_index.0 d (omega (arith, l, past, c.len.ensures)) ∙ ap (λ k. slice_index_or ms k d) size)
    ∙ sym (marks_at-here g.row.MARKED ms c.args.last d high)

pub returns-then-last-len-clause-others : goal.returns-then-last-len-clause-others
returns-then-last-len-clause-others g c i n l =
    let ms = c.args.all.now.items in
    let ns = c.swap_remove-marks.new.self.items in
    let d = c.swap_remove-marks.result in
    let past = c.if-last-len.true in
    let low : i < length ns = omega (arith, l, past, c.len.ensures, c.swap_remove-marks.ensures.len, c.swap_remove-marks.new.self.ok.0) in
    let high : i < length ms = omega (arith, l, past, c.len.ensures, c.args.all.now.ok.0) in
    marks_at-here g.row.MARKED ns i d low
    ∙ ap (kept_marks g.row.MARKED) (c.swap_remove-marks.ensures.by_index.1 i d n (omega (arith, l, past, c.len.ensures)))
    ∙ sym (marks_at-here g.row.MARKED ms i d high)

pub returns-then-place-len-clause-moved : goal.returns-then-place-len-clause-moved
returns-then-place-len-clause-moved g c l =
    let low : c.args.place < length c.args.all.now.items = omega (arith, c.if-place-len.true, c.len-else-last-len.ensures, c.args.all.now.ok.0) in
    (changed-set g.row.MARKED c.args.all.now.items c.args.place c.clear_all.new.self low).here
    ∙ kept_marks-none g.row.MARKED c.clear_all.new.self c.clear_all.ensures
    ∙ sym (marks_at-past g.row.MARKED c.args.all.now.items c.args.last (omega (arith, c.if-last-len.false, c.len.ensures, c.args.all.now.ok.0)))

pub returns-then-place-len-clause-others : goal.returns-then-place-len-clause-others
returns-then-place-len-clause-others g c i n l =
    let low : c.args.place < length c.args.all.now.items = omega (arith, c.if-place-len.true, c.len-else-last-len.ensures, c.args.all.now.ok.0) in
    (changed-set g.row.MARKED c.args.all.now.items c.args.place c.clear_all.new.self low).others i n

pub returns-else-place-len-clause-moved : goal.returns-else-place-len-clause-moved
returns-else-place-len-clause-moved g c l =
    marks_at-past g.row.MARKED c.args.all.now.items c.args.place (omega (arith, c.if-place-len.false, c.len-else-last-len.ensures, c.args.all.now.ok.0))
    ∙ sym (marks_at-past g.row.MARKED c.args.all.now.items c.args.last (omega (arith, c.if-last-len.false, c.len.ensures, c.args.all.now.ok.0)))
