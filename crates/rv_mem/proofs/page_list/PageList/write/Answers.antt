use Rattle.std.proofs.Common.{◌<◌, ◌+◌, ◌-◌, ◌≡◌, ◌∙◌, subst, sym, ap, refl, arith, length, replicate, false}
use Rattle.std.proofs.lemmas.List.{length-set}
use Rattle.std.proofs.Math.Seq.{sets}
use Rattle.rv_mem.specs.Marks.{marks_at}
use Rattle.rv_mem.specs.Page.{page_written}
use Rattle.rv_mem.specs.PageList.{unmarked_written, with_marks}
use Rattle.rv_mem.proofs.PageListLemmas.{below, pages_of-does}
use Rattle.rv_mem.proofs.page_list.PageList.write.Goals as goal

pub index_mut-requires : goal.index_mut-requires
index_mut-requires g c = subst (λ n. c.args.place < n) (sym c.self.inside.pages.ok.0) (below g.row.MARKED c.self.inside.pages.items c.self.inside.marks.items c.args.self.now c.self.view_is c.args.place c.requires.there)

pub invariant_of-self : goal.invariant_of-self
invariant_of-self g c =
    let size = length-set c.self.inside.pages.items c.args.place c.write.new.self in
    (omega (arith, size, c.self.invariant.0), λ kept. let was = c.self.invariant.1 kept in omega (arith, size, was))

pub returns-clause-ok : goal.returns-clause-ok
returns-clause-ok g c =
    let marks = marks_at g.row.MARKED c.self.inside.marks.items c.args.place in
    let size : c.args.offset + length c.args.bytes.now - c.args.offset ≡ length c.args.bytes.now = omega arith in
    let cleared = sets marks c.args.offset (replicate (c.args.offset + length c.args.bytes.now - c.args.offset) false) in
    pages_of-does g.row.MARKED c.self.inside.pages.items c.self.inside.marks.items c.args.self.now c.self.view_is _ c.clear.new.all.items c.args.place c.index_mut.result.now c.write.new.self cleared (page_written c.args.offset c.args.bytes.now) c.requires.there c.index_mut.ensures.value refl
    c.clear.ensures.changed
    (ap (λ p. with_marks p cleared) c.in_ok-write.ensures.ok
    ∙ ap (λ n. with_marks (unmarked_written c.args.offset c.args.bytes.now c.index_mut.result.now) (sets marks c.args.offset (replicate n false))) size)
