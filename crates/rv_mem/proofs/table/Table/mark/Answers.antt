use Rattle.std.proofs.Common.{◌≡◌, ◌+◌, ◌-◌, ◌*◌, ◌/◌, ◌%◌, ◌∙◌, ap, sym, arith, lit<}
use Rattle.std.specs.Prelude.{slice_set}
use Rattle.rv_mem.specs.Page.{page_marked}
use Rattle.rv_mem.specs.Places.{places_of, page_at}
use Rattle.rv_mem.proofs.PagesLemmas.{marked_in_page}
use Rattle.rv_mem.proofs.PlaceLemmas.{inside, paired-put, pages_at-put, pages_at-unset}
use Rattle.rv_mem.proofs.table.Table.mark.Goals as goal

pub returns-in_default : goal.returns-in_default
returns-in_default g c =
    let placed : c.args.at ≡ c.args.at / 4096 * 4096 + c.args.at % 4096 = omega arith in
    pages_at-unset (places_of c.self.inside.places.entries) c.self.inside.pages c.args.self.now (c.args.at / 4096) (page_marked (c.args.at % 4096) c.args.count) c.self.view_is (sym c.place_of.ensures ∙ c.in_default.is)
    ∙ sym (marked_in_page c.args.self.now (c.args.at / 4096) (c.args.at % 4096) c.args.at c.args.count placed c.requires.within)

pub mark-requires : goal.mark-requires
mark-requires g c = (lit< tt, (c.requires.kept, (inside (places_of c.self.inside.places.entries) c.self.inside.numbers.items c.self.inside.pages (c.args.at / 4096) c.in-Some.place c.self.invariant.0 c.self.invariant.1 (sym c.in-Some.ensures), (omega arith, c.requires.within))))

pub invariant_of-self : goal.invariant_of-self
invariant_of-self g c = (c.self.invariant.0, paired-put (places_of c.self.inside.places.entries) c.self.inside.numbers.items c.self.inside.pages (c.args.at / 4096) c.in-Some.place c.self.invariant.0 c.self.invariant.1 (sym c.in-Some.ensures) c.mark.new.self _ c.mark.ensures)

pub returns : goal.returns
returns g c =
    let placed : c.args.at ≡ c.args.at / 4096 * 4096 + c.args.at % 4096 = omega arith in
    let count : c.args.at % 4096 + c.args.count - c.args.at % 4096 ≡ c.args.count = omega arith in
    let pages = c.self.inside.pages in
    let place = c.in-Some.place in
    pages_at-put (places_of c.self.inside.places.entries) c.self.inside.numbers.items c.self.inside.pages (c.args.at / 4096) place c.self.invariant.0 c.self.invariant.1 (sym c.in-Some.ensures) c.mark.new.self c.args.self.now (page_marked (c.args.at % 4096) c.args.count) c.self.view_is
    (c.mark.ensures ∙ ap (λ n. slice_set pages place (page_marked (c.args.at % 4096) n (page_at pages place))) count)
    ∙ sym (marked_in_page c.args.self.now (c.args.at / 4096) (c.args.at % 4096) c.args.at c.args.count placed c.requires.within)
