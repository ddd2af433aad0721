use Rattle.std.proofs.Common.{◌≡◌, ◌+◌, ◌*◌, ◌/◌, ◌%◌, ◌∙◌, ap, sym, take, drop, arith, lit<}
use Rattle.std.specs.List.{list_any}
use Rattle.rv_mem.specs.Places.{places_of, page_at}
use Rattle.rv_mem.proofs.PagesLemmas.{bytes_from_in_page, any_marked_in_page}
use Rattle.rv_mem.proofs.PlaceLemmas.{inside, has_place, there_at}
use Rattle.rv_mem.proofs.table.Table.read.Goals as goal

pub unwrap-place-requires : goal.unwrap-place-requires
unwrap-place-requires g c = has_place (places_of c.self.inside.places.entries) c.self.inside.pages c.args.self.now (c.args.at / 4096) c.place_of.result c.self.view_is c.place_of.ensures c.requires.there

pub copy_to-requires : goal.copy_to-requires
copy_to-requires g c = (lit< tt, (inside (places_of c.self.inside.places.entries) c.self.inside.numbers.items c.self.inside.pages (c.args.at / 4096) c.unwrap-place.result c.self.invariant.0 c.self.invariant.1 (sym c.place_of.ensures ∙ c.unwrap-place.ensures), omega (arith, c.requires.within)))

pub any_marked-requires : goal.any_marked-requires
any_marked-requires g c = (lit< tt, (inside (places_of c.self.inside.places.entries) c.self.inside.numbers.items c.self.inside.pages (c.args.at / 4096) c.unwrap-place.result c.self.invariant.0 c.self.invariant.1 (sym c.place_of.ensures ∙ c.unwrap-place.ensures), omega (arith, c.requires.within, c.copy_to.auto.into)))

pub returns-clause-bytes : goal.returns-clause-bytes
returns-clause-bytes g c =
    let placed : c.args.at ≡ c.args.at / 4096 * 4096 + c.args.at % 4096 = omega arith in
    let there = there_at (places_of c.self.inside.places.entries) c.self.inside.numbers.items c.self.inside.pages (c.args.at / 4096) c.unwrap-place.result c.self.invariant.0 c.self.invariant.1 (sym c.place_of.ensures ∙ c.unwrap-place.ensures) c.args.self.now c.self.view_is in
    c.copy_to.ensures.bytes ∙ bytes_from_in_page c.args.self.now (c.args.at / 4096) (c.args.at % 4096) c.args.at _ _ placed c.requires.within there c.copy_to.ensures.full

pub returns-clause-marked : goal.returns-clause-marked
returns-clause-marked g c =
    let placed : c.args.at ≡ c.args.at / 4096 * 4096 + c.args.at % 4096 = omega arith in
    let there = there_at (places_of c.self.inside.places.entries) c.self.inside.numbers.items c.self.inside.pages (c.args.at / 4096) c.unwrap-place.result c.self.invariant.0 c.self.invariant.1 (sym c.place_of.ensures ∙ c.unwrap-place.ensures) c.args.self.now c.self.view_is in
    c.any_marked.ensures ∙ ap (λ n. list_any (λ m. m) (take n (drop (c.args.at % 4096) (page_at c.self.inside.pages c.unwrap-place.result).marks))) c.copy_to.auto.into
    ∙ any_marked_in_page c.args.self.now (c.args.at / 4096) (c.args.at % 4096) c.args.at _ _ placed c.requires.within there
