use Rattle.std.proofs.Common.{◌-◌, refl, arith, replicate, true}
use Rattle.std.proofs.Math.Seq.{sets}
use Rattle.rv_mem.specs.Marks.{marks_at}
use Rattle.rv_mem.specs.Page.{page_marked}
use Rattle.rv_mem.proofs.PageListLemmas.{below, pages_of-remarked}
use Rattle.rv_mem.proofs.page_list.PageList.mark.Goals as goal

pub mark-requires-clause-room : goal.mark-requires-clause-room
mark-requires-clause-room g c =
    let low = below g.row.MARKED c.self.inside.pages.items c.self.inside.marks.items c.args.self.now c.self.view_is c.args.place c.requires.there in
    let room = c.self.invariant.1 c.requires.kept in
    omega (arith, low, room)

pub invariant_of-self : goal.invariant_of-self
invariant_of-self g c =
    let low = below g.row.MARKED c.self.inside.pages.items c.self.inside.marks.items c.args.self.now c.self.view_is c.args.place c.requires.there in
    (omega (arith, low, c.self.invariant.0, c.mark.ensures.len), λ kept. let was = c.self.invariant.1 kept in omega (arith, was, c.mark.ensures.capacity))

pub returns : goal.returns
returns g c =
    pages_of-remarked g.row.MARKED c.self.inside.pages.items c.self.inside.marks.items c.args.self.now c.self.view_is c.mark.new.all.items c.args.place (sets (marks_at g.row.MARKED c.self.inside.marks.items c.args.place) c.args.from (replicate (c.args.to - c.args.from) true))
    (page_marked c.args.from (c.args.to - c.args.from)) c.requires.there c.mark.ensures.changed (λ p. refl)
