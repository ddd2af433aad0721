use Rattle.std.proofs.Common.{◌<◌, ◌∙◌, subst, sym, ap, refl, arith}
use Rattle.std.proofs.lemmas.List.{length-set}
use Rattle.std.specs.Prelude.{slice_set}
use Rattle.rv_mem.specs.Marks.{kept_marks}
use Rattle.rv_mem.proofs.PageListLemmas.{below, pages_of-changed}
use Rattle.rv_mem.proofs.page_list.PageList.replace.Goals as goal

pub index-requires : goal.index-requires
index-requires g c = subst (λ n. c.args.place < n) (sym c.self.inside.pages.ok.0) (below g.row.MARKED c.self.inside.pages.items c.self.inside.marks.items c.args.self.now c.self.view_is c.args.place c.requires)

pub index_mut-requires : goal.index_mut-requires
index_mut-requires g c = subst (λ n. c.args.place < n) (sym c.self.inside.pages.ok.0) (below g.row.MARKED c.self.inside.pages.items c.self.inside.marks.items c.args.self.now c.self.view_is c.args.place c.requires)

pub put-requires : goal.put-requires
put-requires g c = record {
  room = λ kept. let low = below g.row.MARKED c.self.inside.pages.items c.self.inside.marks.items c.args.self.now c.self.view_is c.args.place c.requires in let room = c.self.invariant.1 kept in omega (arith, low, room);
}

pub invariant_of-self : goal.invariant_of-self
invariant_of-self g c =
    let low = below g.row.MARKED c.self.inside.pages.items c.self.inside.marks.items c.args.self.now c.self.view_is c.args.place c.requires in
    let size = length-set c.self.inside.pages.items c.args.place c.page.inside.page in
    (omega (arith, low, size, c.self.invariant.0, c.put.ensures.len), λ kept. let was = c.self.invariant.1 kept in omega (arith, size, was, c.put.ensures.capacity))

pub returns : goal.returns
returns g c =
    pages_of-changed g.row.MARKED c.self.inside.pages.items c.self.inside.marks.items c.args.self.now c.self.view_is _ c.put.new.all.items c.args.place c.page.inside.page (kept_marks g.row.MARKED c.page.inside.marks) c.requires refl c.put.ensures.changed
    ∙ ap (slice_set c.args.self.now c.args.place) c.page.view_is
