use Rattle.std.proofs.Common.{◌∙◌, sym, arith}
use Rattle.rv_mem.proofs.PageLemmas.{kept_marks-none}
use Rattle.rv_mem.proofs.PageListLemmas.{marks_at-here, marks_at-past}
use Rattle.rv_mem.proofs.mark_list.marks_at.Goals as goal

pub returns-then-place-all : goal.returns-then-place-all
returns-then-place-all c marked = sym (marks_at-here marked c.args.all.now c.args.place _ (omega (arith, c.if-place-all.true)))

pub returns-else-place-all : goal.returns-else-place-all
returns-else-place-all c marked = kept_marks-none marked c.none.result c.none.ensures ∙ sym (marks_at-past marked c.args.all.now c.args.place (omega (arith, c.if-place-all.false)))
