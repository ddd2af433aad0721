use Rattle.std.proofs.Common.{rules, ◌≡◌, ◌<◌, ◌+◌, ◌-◌, ◌∙◌, subst, sym, ap, length, replicate, false, List, arith}
use Rattle.std.proofs.Math.Seq.{sets}
use Rattle.rv_mem.specs.declared.marks.Marks.{Marks}
use Rattle.rv_mem.specs.Marks.{kept_marks, marks_at}
use Rattle.rv_mem.specs.Page.{page_written}
use Rattle.rv_mem.specs.PageList.{Unmarked, unmarked_written, with_marks}
use Rattle.rv_mem.proofs.PageListLemmas.{below, kept-cleared, stands_with}
use Rattle.rv_mem.proofs.page_list.PageList.after.Goals as goal

pub index-requires : goal.index-requires
index-requires g c = subst (λ n. c.args.place < n) (sym c.self.inside.pages.ok.0) (below g.row.MARKED c.self.inside.pages.items c.self.inside.marks.items c.args.self.now c.self.view_is c.args.place c.requires.there)

pub returns : goal.returns
returns g c =
    let bytes = c.args.bytes.now in
    let offset = c.args.offset in
    let page = c.index.result.now in
    let kept = kept_marks g.row.MARKED c.marks_at-marks.result in
    let size : offset + length bytes - offset ≡ length bytes = omega arith in
    let copied : c.in_ok-page.page ≡ page = search rules in
    ap (λ (p : Unmarked). with_marks p (kept_marks g.row.MARKED c.clear.new.self)) (c.in_ok-write.ensures.ok ∙ ap (unmarked_written offset bytes) copied)
    ∙ ap (with_marks (unmarked_written offset bytes page))
    (kept-cleared g.row.MARKED c.marks_at-marks.result c.clear.new.self offset (offset + length bytes - offset) c.clear.ensures ∙ ap (λ n. sets kept offset (replicate n false)) size
    ∙ ap (λ l. sets l offset (replicate (length bytes) false))
    (c.marks_at-marks.ensures g.row.MARKED ∙ ap (λ (ms : List Marks). marks_at g.row.MARKED ms c.args.place) c.deref.ensures.value))
    ∙ ap (page_written offset bytes) (sym (stands_with g.row.MARKED c.self.inside.pages.items c.self.inside.marks.items c.args.self.now c.self.view_is c.args.place page c.requires.there c.index.ensures))
