use Rattle.std.proofs.Common.{◌<◌, ◌∙◌, subst, sym, ap, arith}
use Rattle.std.proofs.lemmas.List.{length-set}
use Rattle.rv_table.specs.Rows.{decoded}
use Rattle.rv_mem.specs.Code.{word_at}
use Rattle.rv_mem.specs.Page.{PageState}
use Rattle.rv_mem.specs.PageList.{Unmarked}
use Rattle.rv_mem.proofs.PageListLemmas.{below, pages_of-same, stands_with}
use Rattle.rv_mem.proofs.page_list.PageList.fetch_anew.Goals as goal

pub index_mut-page-requires : goal.index_mut-page-requires
index_mut-page-requires g c = subst (λ n. c.args.place < n) (sym c.self.inside.pages.ok.0) (below g.row.MARKED c.self.inside.pages.items c.self.inside.marks.items c.args.self.now c.self.view_is c.args.place c.requires.there)

pub invariant_of-self : goal.invariant_of-self
invariant_of-self g c =
    let size = length-set c.self.inside.pages.items c.args.place c.decode.new.self in
    (omega (arith, size, c.self.invariant.0), λ kept. let was = c.self.invariant.1 kept in omega (arith, size, was))

pub returns-clause-value : goal.returns-clause-value
returns-clause-value g c =
    c.decode.ensures.value ∙ ap (λ (p : Unmarked). decoded (word_at p.bytes c.args.offset)) c.make_room.ensures
    ∙ sym (ap (λ (p : PageState). decoded (word_at p.bytes c.args.offset)) (stands_with g.row.MARKED c.self.inside.pages.items c.self.inside.marks.items c.args.self.now c.self.view_is c.args.place c.index_mut-page.result.now c.requires.there c.index_mut-page.ensures.value))

pub returns-clause-same : goal.returns-clause-same
returns-clause-same g c =
    pages_of-same g.row.MARKED c.self.inside.pages.items c.self.inside.marks.items c.args.self.now c.self.view_is c.args.place c.index_mut-page.result.now c.decode.new.self c.requires.there c.index_mut-page.ensures.value (c.decode.ensures.same ∙ c.make_room.ensures)
