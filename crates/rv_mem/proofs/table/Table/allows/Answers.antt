use Rattle.std.proofs.Common.{◌∙◌, ap, sym, false, lit<}
use Rattle.std.specs.Option.{option_map_or}
use Rattle.rv_mem.specs.Page.{grants}
use Rattle.rv_mem.specs.Places.{places_of}
use Rattle.rv_mem.proofs.PlaceLemmas.{inside, absent, there_at}
use Rattle.rv_mem.proofs.table.Table.allows.Goals as goal

pub grants-requires : goal.grants-requires
grants-requires g c = (lit< tt, inside (places_of c.self.inside.places.entries) c.self.inside.numbers.items c.self.inside.pages c.args.number c.in-Some.place c.self.invariant.0 c.self.invariant.1 (sym c.in-Some.ensures))

pub returns-in-Some : goal.returns-in-Some
returns-in-Some g c =
    c.grants.ensures
    ∙ ap (λ o. option_map_or (λ p. grants p.rights c.args.what) o false) (sym (there_at (places_of c.self.inside.places.entries) c.self.inside.numbers.items c.self.inside.pages c.args.number c.in-Some.place c.self.invariant.0 c.self.invariant.1 (sym c.in-Some.ensures) c.args.self.now c.self.view_is))

pub returns-in-None : goal.returns-in-None
returns-in-None g c = ap (λ o. option_map_or (λ p. grants p.rights c.args.what) o false) (sym (absent (places_of c.self.inside.places.entries) c.self.inside.pages c.args.self.now c.args.number c.self.view_is (sym c.in-None.ensures)))
