use Rattle.std.specs.FinMap as map
use Rattle.std.proofs.Common.{◌<◌, ◌≤◌, ◌≡◌, ◌+◌, ◌*◌, ◌/◌, ◌%◌, ◌∙◌, List, sym, ap, subst, true, false, Some, length, take, drop, arith, lit<}
use Rattle.std.specs.List.{list_any}
use Rattle.std.specs.Option.{option_map_or}
use Rattle.rv_table.specs.pr_base.Fields.{little_endian}
use Rattle.rv_table.specs.Rows.{decoded}
use Rattle.rv_mem.specs.declared.rights.Use.TheVariants.{Execute}
use Rattle.rv_mem.specs.Page.{PageState, grants}
use Rattle.rv_mem.specs.Pages.{page_allows}
use Rattle.rv_mem.specs.Places.{places_of, page_at, pages_at}
use Rattle.rv_mem.proofs.PagesLemmas.{bytes_from_in_page, any_marked_in_page, allows_all_in_page, allows_all_refused}
use Rattle.rv_mem.proofs.PlaceLemmas.{inside, absent, there_at}
use Rattle.rv_mem.proofs.table.Table.fetch.Goals as goal

pub returns-in_default-clause-fetched : goal.returns-in_default-clause-fetched
returns-in_default-clause-fetched g c =
    let none = absent (places_of c.self.inside.places.entries) c.self.inside.pages c.args.self.now (c.args.at / 4096) c.self.view_is (sym c.recalled.ensures ∙ c.in_default.is) in
    let refused : page_allows c.args.self.now (c.args.at / 4096) Execute ≡ false = ap (λ o. option_map_or (λ p. grants p.rights Execute) o false) none in
    allows_all_refused c.args.self.now c.args.at 4 Execute (omega arith) refused

pub grants-requires : goal.grants-requires
grants-requires g c = (lit< tt, inside (places_of c.self.inside.places.entries) c.self.inside.numbers.items c.self.inside.pages (c.args.at / 4096) c.in-Some.place c.self.invariant.0 c.self.invariant.1 (sym c.recalled.ensures ∙ c.in-Some.is))

pub returns-then-not-grants-clause-fetched : goal.returns-then-not-grants-clause-fetched
returns-then-not-grants-clause-fetched g c =
    let there : map.get c.args.self.now (c.args.at / 4096) ≡ Some (page_at c.self.inside.pages c.in-Some.place) = there_at (places_of c.self.inside.places.entries) c.self.inside.numbers.items c.self.inside.pages (c.args.at / 4096) c.in-Some.place c.self.invariant.0 c.self.invariant.1 (sym c.recalled.ensures ∙ c.in-Some.is) c.args.self.now c.self.view_is in
    let refused : page_allows c.args.self.now (c.args.at / 4096) Execute ≡ false
    = ap (λ o. option_map_or (λ p. grants p.rights Execute) o false) there ∙ sym c.grants.ensures ∙ c.if-not-grants.true in
    allows_all_refused c.args.self.now c.args.at 4 Execute (omega arith) refused

pub fetch-found-requires : goal.fetch-found-requires
fetch-found-requires g c = (lit< tt, (inside (places_of c.self.inside.places.entries) c.self.inside.numbers.items c.self.inside.pages (c.args.at / 4096) c.in-Some.place c.self.invariant.0 c.self.invariant.1 (sym c.recalled.ensures ∙ c.in-Some.is), (omega (arith, c.requires.aligned), omega (arith, c.requires.aligned))))

pub any_marked-marked-requires : goal.any_marked-marked-requires
any_marked-marked-requires g c = (lit< tt, (subst (λ (l : List PageState). c.in-Some.place < length l) (sym c.fetch-found.ensures.same) (inside (places_of c.self.inside.places.entries) c.self.inside.numbers.items c.self.inside.pages (c.args.at / 4096) c.in-Some.place c.self.invariant.0 c.self.invariant.1 (sym c.recalled.ensures ∙ c.in-Some.is)), omega (arith, c.requires.aligned)))

pub invariant_of-self-2 : goal.invariant_of-self-2
invariant_of-self-2 g c = (c.self.invariant.0, ap length c.fetch-found.ensures.same ∙ c.self.invariant.1)

pub returns-clause-fetched : goal.returns-clause-fetched
returns-clause-fetched g c =
    let placed : c.args.at ≡ c.args.at / 4096 * 4096 + c.args.at % 4096 = omega arith in
    let within : c.args.at % 4096 + 4 ≤ 4096 = omega (arith, c.requires.aligned) in
    let page = page_at c.self.inside.pages c.in-Some.place in
    let there : map.get c.args.self.now (c.args.at / 4096) ≡ Some page = there_at (places_of c.self.inside.places.entries) c.self.inside.numbers.items c.self.inside.pages (c.args.at / 4096) c.in-Some.place c.self.invariant.0 c.self.invariant.1 (sym c.recalled.ensures ∙ c.in-Some.is) c.args.self.now c.self.view_is in
    let granted : page_allows c.args.self.now (c.args.at / 4096) Execute ≡ true
    = ap (λ o. option_map_or (λ p. grants p.rights Execute) o false) there ∙ sym c.grants.ensures ∙ c.if-not-grants.false in
    record {
      allowed = allows_all_in_page c.args.self.now (c.args.at / 4096) (c.args.at % 4096) c.args.at 4 Execute placed within granted;
      word = c.fetch-found.ensures.value ∙ ap (λ l. decoded (little_endian l)) (bytes_from_in_page c.args.self.now (c.args.at / 4096) (c.args.at % 4096) c.args.at 4 page placed within there (c.requires.whole (c.args.at / 4096) page there).0);
      marked = c.any_marked-marked.ensures ∙ ap (λ (l : List PageState). list_any (λ m. m) (take 4 (drop (c.args.at % 4096) (page_at l c.in-Some.place).marks))) c.fetch-found.ensures.same
          ∙ any_marked_in_page c.args.self.now (c.args.at / 4096) (c.args.at % 4096) c.args.at 4 page placed within there;
    }

pub returns-clause-same : goal.returns-clause-same
returns-clause-same g c = ap (pages_at (places_of c.self.inside.places.entries)) c.fetch-found.ensures.same ∙ c.self.view_is
