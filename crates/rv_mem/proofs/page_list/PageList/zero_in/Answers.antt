use Rattle.std.proofs.Common.{◌<◌, ◌∙◌, subst, sym, ap, take, drop, length, nat_eq}
use Rattle.std.specs.Prelude.{position}
use Rattle.rv_mem.proofs.PageListLemmas.{below, stands_with}
use Rattle.rv_mem.proofs.page_list.PageList.zero_in.Goals as goal

pub index-requires : goal.index-requires
index-requires g c = subst (λ n. c.args.place < n) (sym c.self.inside.pages.ok.0) (below g.row.MARKED c.self.inside.pages.items c.self.inside.marks.items c.args.self.now c.self.view_is c.args.place c.requires.there)

pub returns-clause-found : goal.returns-clause-found
returns-clause-found g c =
    let page = stands_with g.row.MARKED c.self.inside.pages.items c.self.inside.marks.items c.args.self.now c.self.view_is c.args.place c.index.result.now c.requires.there c.index.ensures in
    c.zero_in.ensures.found ∙ sym (ap (λ p. position (λ b. nat_eq b 0) (take c.args.count (drop c.args.offset p.bytes))) page)

pub returns-clause-full : goal.returns-clause-full
returns-clause-full g c = ap (λ p. length p.bytes) (stands_with g.row.MARKED c.self.inside.pages.items c.self.inside.marks.items c.args.self.now c.self.view_is c.args.place c.index.result.now c.requires.there c.index.ensures) ∙ c.zero_in.ensures.full
