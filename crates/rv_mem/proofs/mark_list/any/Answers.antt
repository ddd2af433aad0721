use Rattle.std.proofs.Common.{◌∙◌, sym, ap, take, drop, arith}
use Rattle.std.specs.List.{list_any}
use Rattle.rv_mem.specs.Marks.{marks_at}
use Rattle.rv_mem.proofs.MarkLemmas.{none-found}
use Rattle.rv_mem.proofs.PageLemmas.{kept_marks-kept}
use Rattle.rv_mem.proofs.PageListLemmas.{marks_at-here, marks_at-past, marks_at-unkept}
use Rattle.rv_mem.proofs.mark_list.any.Goals as goal

pub returns-then-this-eq0 : goal.returns-then-this-eq0
returns-then-this-eq0 g c =
    none-found (marks_at g.row.MARKED c.args.all.now c.args.place) c.args.offset c.args.count (marks_at-unkept g.row.MARKED c.args.all.now c.args.place c.if-this-eq0.true)

pub returns-then-place-all : goal.returns-then-place-all
returns-then-place-all g c =
    c.any.ensures
    ∙ ap (λ l. list_any (λ m. m) (take c.args.count (drop c.args.offset l)))
    (sym (marks_at-here g.row.MARKED c.args.all.now c.args.place _ (omega (arith, c.if-place-all.true)) ∙ kept_marks-kept g.row.MARKED _ c.if-this-eq0.false))

pub returns-else-place-all : goal.returns-else-place-all
returns-else-place-all g c =
    none-found (marks_at g.row.MARKED c.args.all.now c.args.place) c.args.offset c.args.count (marks_at-past g.row.MARKED c.args.all.now c.args.place (omega (arith, c.if-place-all.false)))
