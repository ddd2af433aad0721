use Rattle.std.proofs.Common.{◌∙◌, sym, lit<}
use Rattle.rv_mem.specs.Page.{fresh_page}
use Rattle.rv_mem.specs.Places.{places_of}
use Rattle.rv_mem.proofs.PlaceLemmas.{inside, paired-put, pages_at-put, pages_at-unset}
use Rattle.rv_mem.proofs.table.Table.reset.Goals as goal

pub returns-in_default : goal.returns-in_default
returns-in_default g c = pages_at-unset (places_of c.self.inside.places.entries) c.self.inside.pages c.args.self.now c.args.number (λ _. fresh_page c.args.rights) c.self.view_is (sym c.place_of.ensures ∙ c.in_default.is)

pub reset-requires : goal.reset-requires
reset-requires g c = (lit< tt, inside (places_of c.self.inside.places.entries) c.self.inside.numbers.items c.self.inside.pages c.args.number c.in-Some.place c.self.invariant.0 c.self.invariant.1 (sym c.in-Some.ensures))

pub invariant_of-self : goal.invariant_of-self
invariant_of-self g c = (c.self.invariant.0, paired-put (places_of c.self.inside.places.entries) c.self.inside.numbers.items c.self.inside.pages c.args.number c.in-Some.place c.self.invariant.0 c.self.invariant.1 (sym c.in-Some.ensures) c.reset.new.self _ c.reset.ensures)

pub returns : goal.returns
returns g c = pages_at-put (places_of c.self.inside.places.entries) c.self.inside.numbers.items c.self.inside.pages c.args.number c.in-Some.place c.self.invariant.0 c.self.invariant.1 (sym c.in-Some.ensures) c.reset.new.self c.args.self.now (λ _. fresh_page c.args.rights) c.self.view_is c.reset.ensures
