use Rattle.std.specs.FinMap as map
use Rattle.std.proofs.Common.{◌≡◌, ◌+◌, ◌*◌, ◌/◌, ◌%◌, ◌∙◌, refl, sym, ap, true, false, Some, length, take, drop, arith, lit<}
use Rattle.std.specs.List.{list_any}
use Rattle.std.specs.Option.{option_map_or}
use Rattle.rv_mem.specs.Page.{grants}
use Rattle.rv_mem.specs.Pages.{page_allows}
use Rattle.rv_mem.specs.Places.{places_of, page_at}
use Rattle.rv_mem.proofs.PagesLemmas.{bytes_from_in_page, any_marked_in_page, allows_all_in_page, allows_all_refused}
use Rattle.rv_mem.proofs.PlaceLemmas.{inside, absent, there_at}
use Rattle.rv_mem.proofs.table.Table.read_in_page.Goals as goal

pub returns-in_default-clause-read : goal.returns-in_default-clause-read
returns-in_default-clause-read g c =
    let none = absent (places_of c.self.inside.places.entries) c.self.inside.pages c.args.self.now (c.args.at / 4096) c.self.view_is (sym c.recalled.ensures ∙ c.in_default.is) in
    let refused : page_allows c.args.self.now (c.args.at / 4096) c.args.what ≡ false = ap (λ o. option_map_or (λ p. grants p.rights c.args.what) o false) none in
    record { refused = allows_all_refused c.args.self.now c.args.at (length c.args.into.now) c.args.what c.requires.some refused; kept = refl }

pub grants-requires : goal.grants-requires
grants-requires g c = (lit< tt, inside (places_of c.self.inside.places.entries) c.self.inside.numbers.items c.self.inside.pages (c.args.at / 4096) c.in-Some.place c.self.invariant.0 c.self.invariant.1 (sym c.recalled.ensures ∙ c.in-Some.is))

pub returns-then-not-grants-clause-read : goal.returns-then-not-grants-clause-read
returns-then-not-grants-clause-read g c =
    let there : map.get c.args.self.now (c.args.at / 4096) ≡ Some (page_at c.self.inside.pages c.in-Some.place) = there_at (places_of c.self.inside.places.entries) c.self.inside.numbers.items c.self.inside.pages (c.args.at / 4096) c.in-Some.place c.self.invariant.0 c.self.invariant.1 (sym c.recalled.ensures ∙ c.in-Some.is) c.args.self.now c.self.view_is in
    let refused : page_allows c.args.self.now (c.args.at / 4096) c.args.what ≡ false
    = ap (λ o. option_map_or (λ p. grants p.rights c.args.what) o false) there ∙ sym c.grants.ensures ∙ c.if-not-grants.true in
    record { refused = allows_all_refused c.args.self.now c.args.at (length c.args.into.now) c.args.what c.requires.some refused; kept = refl }

pub copy_to-requires : goal.copy_to-requires
copy_to-requires g c = (lit< tt, (inside (places_of c.self.inside.places.entries) c.self.inside.numbers.items c.self.inside.pages (c.args.at / 4096) c.in-Some.place c.self.invariant.0 c.self.invariant.1 (sym c.recalled.ensures ∙ c.in-Some.is), omega (arith, c.requires.within)))

pub any_marked-marked-requires : goal.any_marked-marked-requires
any_marked-marked-requires g c = (lit< tt, (inside (places_of c.self.inside.places.entries) c.self.inside.numbers.items c.self.inside.pages (c.args.at / 4096) c.in-Some.place c.self.invariant.0 c.self.invariant.1 (sym c.recalled.ensures ∙ c.in-Some.is), omega (arith, c.requires.within, c.copy_to.auto.into)))

pub returns-clause-read : goal.returns-clause-read
returns-clause-read g c =
    let placed : c.args.at ≡ c.args.at / 4096 * 4096 + c.args.at % 4096 = omega arith in
    let page = page_at c.self.inside.pages c.in-Some.place in
    let there : map.get c.args.self.now (c.args.at / 4096) ≡ Some page = there_at (places_of c.self.inside.places.entries) c.self.inside.numbers.items c.self.inside.pages (c.args.at / 4096) c.in-Some.place c.self.invariant.0 c.self.invariant.1 (sym c.recalled.ensures ∙ c.in-Some.is) c.args.self.now c.self.view_is in
    let granted : page_allows c.args.self.now (c.args.at / 4096) c.args.what ≡ true
    = ap (λ o. option_map_or (λ p. grants p.rights c.args.what) o false) there ∙ sym c.grants.ensures ∙ c.if-not-grants.false in
    record {
      allowed = allows_all_in_page c.args.self.now (c.args.at / 4096) (c.args.at % 4096) c.args.at (length c.args.into.now) c.args.what placed c.requires.within granted;
      bytes = c.copy_to.ensures.bytes ∙ bytes_from_in_page c.args.self.now (c.args.at / 4096) (c.args.at % 4096) c.args.at _ _ placed c.requires.within there c.copy_to.ensures.full;
      marked = c.any_marked-marked.ensures ∙ ap (λ n. list_any (λ m. m) (take n (drop (c.args.at % 4096) page.marks))) c.copy_to.auto.into
          ∙ any_marked_in_page c.args.self.now (c.args.at / 4096) (c.args.at % 4096) c.args.at _ _ placed c.requires.within there;
    }
