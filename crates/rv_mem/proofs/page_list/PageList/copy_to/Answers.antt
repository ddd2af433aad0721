use Rattle.std.proofs.Common.{◌<◌, ◌∙◌, subst, sym, ap, take, drop, length}
use Rattle.rv_mem.proofs.PageListLemmas.{below, stands_with}
use Rattle.rv_mem.proofs.page_list.PageList.copy_to.Goals as goal

pub index-requires : goal.index-requires
index-requires g c = subst (λ n. c.args.place < n) (sym c.self.inside.pages.ok.0) (below g.row.MARKED c.self.inside.pages.items c.self.inside.marks.items c.args.self.now c.self.view_is c.args.place c.requires.there)

pub returns-clause-bytes : goal.returns-clause-bytes
returns-clause-bytes g c =
    let page = stands_with g.row.MARKED c.self.inside.pages.items c.self.inside.marks.items c.args.self.now c.self.view_is c.args.place c.index.result.now c.requires.there c.index.ensures in
    c.copy_to.ensures.bytes ∙ sym (ap (λ p. take (length c.args.into.now) (drop c.args.offset p.bytes)) page)

pub returns-clause-full : goal.returns-clause-full
returns-clause-full g c = ap (λ p. length p.bytes) (stands_with g.row.MARKED c.self.inside.pages.items c.self.inside.marks.items c.args.self.now c.self.view_is c.args.place c.index.result.now c.requires.there c.index.ensures) ∙ c.copy_to.ensures.full
