use Rattle.std.proofs.Common.{◌<◌, ◌∙◌, subst, sym, ap}
use Rattle.rv_mem.specs.Page.{grants}
use Rattle.rv_mem.proofs.PageListLemmas.{below, stands_with}
use Rattle.rv_mem.proofs.page_list.PageList.grants.Goals as goal

pub index-requires : goal.index-requires
index-requires g c = subst (λ n. c.args.place < n) (sym c.self.inside.pages.ok.0) (below g.row.MARKED c.self.inside.pages.items c.self.inside.marks.items c.args.self.now c.self.view_is c.args.place c.requires)

pub returns : goal.returns
returns g c = c.grants.ensures ∙ sym (ap (λ p. grants p.rights c.args.what) (stands_with g.row.MARKED c.self.inside.pages.items c.self.inside.marks.items c.args.self.now c.self.view_is c.args.place c.index.result.now c.requires c.index.ensures))
