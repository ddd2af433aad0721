use Rattle.std.proofs.Common.{◌<◌, subst, sym, ap, refl, arith}
use Rattle.std.proofs.lemmas.List.{length-set}
use Rattle.rv_mem.specs.Marks.{marks_at}
use Rattle.rv_mem.specs.Page.{page_with_rights}
use Rattle.rv_mem.specs.PageList.{with_marks}
use Rattle.rv_mem.proofs.PageListLemmas.{below, changed-none, pages_of-does}
use Rattle.rv_mem.proofs.page_list.PageList.set_rights.Goals as goal

pub index_mut-requires : goal.index_mut-requires
index_mut-requires g c = subst (λ n. c.args.place < n) (sym c.self.inside.pages.ok.0) (below g.row.MARKED c.self.inside.pages.items c.self.inside.marks.items c.args.self.now c.self.view_is c.args.place c.requires)

pub invariant_of-self : goal.invariant_of-self
invariant_of-self g c =
    let size = length-set c.self.inside.pages.items c.args.place c.set_rights.new.self in
    (omega (arith, size, c.self.invariant.0), λ kept. let was = c.self.invariant.1 kept in omega (arith, size, was))

pub returns : goal.returns
returns g c =
    pages_of-does g.row.MARKED c.self.inside.pages.items c.self.inside.marks.items c.args.self.now c.self.view_is _ c.self.inside.marks.items c.args.place c.index_mut.result.now c.set_rights.new.self (marks_at g.row.MARKED c.self.inside.marks.items c.args.place) (page_with_rights c.args.rights) c.requires c.index_mut.ensures.value refl
    (changed-none g.row.MARKED c.self.inside.marks.items c.args.place) (ap (λ p. with_marks p (marks_at g.row.MARKED c.self.inside.marks.items c.args.place)) c.set_rights.ensures)
