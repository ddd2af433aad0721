use Rattle.std.specs.FinMap as map
use Rattle.std.proofs.Common.{rules, ◌≡◌, ◌+◌, ◌*◌, ◌/◌, ◌%◌, ◌∙◌, refl, sym, ap, true, false, Some, length, arith, lit<}
use Rattle.std.specs.Option.{option_map_or}
use Rattle.rv_mem.specs.declared.rights.Use.TheVariants.{Write}
use Rattle.rv_mem.specs.Page.{grants, page_written}
use Rattle.rv_mem.specs.Pages.{page_allows, allows_all}
use Rattle.rv_mem.specs.Places.{places_of, page_at}
use Rattle.rv_mem.proofs.PagesLemmas.{allows_all_in_page, allows_all_refused, written_in_page}
use Rattle.rv_mem.proofs.PlaceLemmas.{inside, absent, there_at, pages_at-put}
use Rattle.rv_mem.proofs.table.Table.write_in_page.Goals as goal

pub returns-in_default-clause-bad : goal.returns-in_default-clause-bad
returns-in_default-clause-bad g c =
    let none = absent (places_of c.self.inside.places.entries) c.self.inside.pages c.args.self.now (c.args.at / 4096) c.self.view_is (sym c.recalled.ensures ∙ c.in_default.is) in
    let refused : page_allows c.args.self.now (c.args.at / 4096) Write ≡ false = ap (λ o. option_map_or (λ p. grants p.rights Write) o false) none in
    (λ _. allows_all_refused c.args.self.now c.args.at (length c.args.bytes.now) Write c.requires.some refused, λ _. refl)

pub grants-requires : goal.grants-requires
grants-requires g c = (lit< tt, inside (places_of c.self.inside.places.entries) c.self.inside.numbers.items c.self.inside.pages (c.args.at / 4096) c.in-Some.place c.self.invariant.0 c.self.invariant.1 (sym c.recalled.ensures ∙ c.in-Some.is))

pub returns-then-not-grants-clause-bad : goal.returns-then-not-grants-clause-bad
returns-then-not-grants-clause-bad g c =
    let there : map.get c.args.self.now (c.args.at / 4096) ≡ Some (page_at c.self.inside.pages c.in-Some.place) = there_at (places_of c.self.inside.places.entries) c.self.inside.numbers.items c.self.inside.pages (c.args.at / 4096) c.in-Some.place c.self.invariant.0 c.self.invariant.1 (sym c.recalled.ensures ∙ c.in-Some.is) c.args.self.now c.self.view_is in
    let refused : page_allows c.args.self.now (c.args.at / 4096) Write ≡ false
    = ap (λ o. option_map_or (λ p. grants p.rights Write) o false) there ∙ sym c.grants.ensures ∙ c.if-not-grants.true in
    (λ _. allows_all_refused c.args.self.now c.args.at (length c.args.bytes.now) Write c.requires.some refused, λ _. refl)

pub write-requires : goal.write-requires
write-requires g c = (lit< tt, (inside (places_of c.self.inside.places.entries) c.self.inside.numbers.items c.self.inside.pages (c.args.at / 4096) c.in-Some.place c.self.invariant.0 c.self.invariant.1 (sym c.recalled.ensures ∙ c.in-Some.is), omega (arith, c.requires.within)))

pub returns-in_err-write-clause-bad : goal.returns-in_err-write-clause-bad
returns-in_err-write-clause-bad g c =
    let placed : c.args.at ≡ c.args.at / 4096 * 4096 + c.args.at % 4096 = omega arith in
    let there : map.get c.args.self.now (c.args.at / 4096) ≡ Some (page_at c.self.inside.pages c.in-Some.place) = there_at (places_of c.self.inside.places.entries) c.self.inside.numbers.items c.self.inside.pages (c.args.at / 4096) c.in-Some.place c.self.invariant.0 c.self.invariant.1 (sym c.recalled.ensures ∙ c.in-Some.is) c.args.self.now c.self.view_is in
    let granted : page_allows c.args.self.now (c.args.at / 4096) Write ≡ true
    = ap (λ o. option_map_or (λ p. grants p.rights Write) o false) there ∙ sym c.grants.ensures ∙ c.if-not-grants.false in
    let allowed : allows_all c.args.self.now c.args.at (length c.args.bytes.now) Write ≡ true
    = allows_all_in_page c.args.self.now (c.args.at / 4096) (c.args.at % 4096) c.args.at (length c.args.bytes.now) Write placed c.requires.within granted in
    search rules

pub returns-clause-bad : goal.returns-clause-bad
returns-clause-bad g c =
    let placed : c.args.at ≡ c.args.at / 4096 * 4096 + c.args.at % 4096 = omega arith in
    let there : map.get c.args.self.now (c.args.at / 4096) ≡ Some (page_at c.self.inside.pages c.in-Some.place) = there_at (places_of c.self.inside.places.entries) c.self.inside.numbers.items c.self.inside.pages (c.args.at / 4096) c.in-Some.place c.self.invariant.0 c.self.invariant.1 (sym c.recalled.ensures ∙ c.in-Some.is) c.args.self.now c.self.view_is in
    let granted : page_allows c.args.self.now (c.args.at / 4096) Write ≡ true
    = ap (λ o. option_map_or (λ p. grants p.rights Write) o false) there ∙ sym c.grants.ensures ∙ c.if-not-grants.false in
    let allowed : allows_all c.args.self.now c.args.at (length c.args.bytes.now) Write ≡ true
    = allows_all_in_page c.args.self.now (c.args.at / 4096) (c.args.at % 4096) c.args.at (length c.args.bytes.now) Write placed c.requires.within granted in
    (λ h. absurd cc, λ refused. absurd cc)

pub returns-clause-ok : goal.returns-clause-ok
returns-clause-ok g c =
    let placed : c.args.at ≡ c.args.at / 4096 * 4096 + c.args.at % 4096 = omega arith in
    pages_at-put (places_of c.self.inside.places.entries) c.self.inside.numbers.items c.self.inside.pages (c.args.at / 4096) c.in-Some.place c.self.invariant.0 c.self.invariant.1 (sym c.recalled.ensures ∙ c.in-Some.is) c.write.new.self c.args.self.now (page_written (c.args.at % 4096) c.args.bytes.now) c.self.view_is c.in_ok-write.ensures.ok
    ∙ sym (written_in_page c.args.self.now (c.args.at / 4096) (c.args.at % 4096) c.args.at c.args.bytes.now placed c.requires.within)
