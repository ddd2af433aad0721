use Rattle.std.proofs.Common.{◌≡◌, ◌+◌, ◌*◌, ◌/◌, ◌%◌, ◌∙◌, sym, arith, lit<}
use Rattle.rv_mem.specs.Places.{places_of}
use Rattle.rv_mem.proofs.PagesLemmas.{any_marked_in_page}
use Rattle.rv_mem.proofs.PlaceLemmas.{inside, has_place, there_at}
use Rattle.rv_mem.proofs.table.Table.any_marked.Goals as goal

pub unwrap-place-requires : goal.unwrap-place-requires
unwrap-place-requires g c = has_place (places_of c.self.inside.places.entries) c.self.inside.pages c.args.self.now (c.args.at / 4096) c.place_of.result c.self.view_is c.place_of.ensures c.requires.there

pub any_marked-requires : goal.any_marked-requires
any_marked-requires g c = (lit< tt, (inside (places_of c.self.inside.places.entries) c.self.inside.numbers.items c.self.inside.pages (c.args.at / 4096) c.unwrap-place.result c.self.invariant.0 c.self.invariant.1 (sym c.place_of.ensures ∙ c.unwrap-place.ensures), omega (arith, c.requires.within)))

pub returns : goal.returns
returns g c =
    let placed : c.args.at ≡ c.args.at / 4096 * 4096 + c.args.at % 4096 = omega arith in
    let there = there_at (places_of c.self.inside.places.entries) c.self.inside.numbers.items c.self.inside.pages (c.args.at / 4096) c.unwrap-place.result c.self.invariant.0 c.self.invariant.1 (sym c.place_of.ensures ∙ c.unwrap-place.ensures) c.args.self.now c.self.view_is in
    c.any_marked.ensures ∙ any_marked_in_page c.args.self.now (c.args.at / 4096) (c.args.at % 4096) c.args.at c.args.count _ placed c.requires.within there
