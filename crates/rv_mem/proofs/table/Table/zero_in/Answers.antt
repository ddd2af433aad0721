use Rattle.std.proofs.Common.{◌≡◌, ◌+◌, ◌*◌, ◌/◌, ◌%◌, ◌∙◌, ap, sym, nat_eq, arith, lit<}
use Rattle.std.specs.List.{position}
use Rattle.rv_mem.specs.Places.{places_of}
use Rattle.rv_mem.proofs.PagesLemmas.{bytes_from_in_page}
use Rattle.rv_mem.proofs.PlaceLemmas.{inside, has_place, there_at}
use Rattle.rv_mem.proofs.TextLemmas.{none_found, one_found}
use Rattle.rv_mem.proofs.table.Table.zero_in.Goals as goal

pub unwrap-place-requires : goal.unwrap-place-requires
unwrap-place-requires g c = has_place (places_of c.self.inside.places.entries) c.self.inside.pages c.args.self.now (c.args.at / 4096) c.place_of.result c.self.view_is c.place_of.ensures c.requires.there

pub zero_in-requires : goal.zero_in-requires
zero_in-requires g c = (lit< tt, (inside (places_of c.self.inside.places.entries) c.self.inside.numbers.items c.self.inside.pages (c.args.at / 4096) c.unwrap-place.result c.self.invariant.0 c.self.invariant.1 (sym c.place_of.ensures ∙ c.unwrap-place.ensures), omega (arith, c.requires.within)))

pub returns : goal.returns
returns g c =
    let placed : c.args.at ≡ c.args.at / 4096 * 4096 + c.args.at % 4096 = omega arith in
    let there = there_at (places_of c.self.inside.places.entries) c.self.inside.numbers.items c.self.inside.pages (c.args.at / 4096) c.unwrap-place.result c.self.invariant.0 c.self.invariant.1 (sym c.place_of.ensures ∙ c.unwrap-place.ensures) c.args.self.now c.self.view_is in
    let found = c.zero_in.ensures.found
    ∙ ap (position (λ b. nat_eq b 0)) (bytes_from_in_page c.args.self.now (c.args.at / 4096) (c.args.at % 4096) c.args.at c.args.count _ placed c.requires.within there c.zero_in.ensures.full) in
    record {
      none = none_found c.args.self.now c.args.at c.args.count c.zero_in.result found;
      some = one_found c.args.self.now c.args.at c.args.count c.zero_in.result found;
    }
