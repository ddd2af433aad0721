use Rattle.std.proofs.Common.{◌∙◌, sym, lit<}
use Rattle.rv_mem.specs.Page.{page_with_rights}
use Rattle.rv_mem.specs.Places.{places_of}
use Rattle.rv_mem.proofs.PlaceLemmas.{inside, paired-put, pages_at-put, pages_at-unset}
use Rattle.rv_mem.proofs.table.Table.set_rights.Goals as goal

pub returns-in_default : goal.returns-in_default
returns-in_default g c = pages_at-unset (places_of c.self.inside.places.entries) c.self.inside.pages c.args.self.now c.args.number (page_with_rights c.args.rights) c.self.view_is (sym c.place_of.ensures ∙ c.in_default.is)

pub set_rights-requires : goal.set_rights-requires
set_rights-requires g c = (lit< tt, inside (places_of c.self.inside.places.entries) c.self.inside.numbers.items c.self.inside.pages c.args.number c.in-Some.place c.self.invariant.0 c.self.invariant.1 (sym c.in-Some.ensures))

pub invariant_of-self : goal.invariant_of-self
invariant_of-self g c = (c.self.invariant.0, paired-put (places_of c.self.inside.places.entries) c.self.inside.numbers.items c.self.inside.pages c.args.number c.in-Some.place c.self.invariant.0 c.self.invariant.1 (sym c.in-Some.ensures) c.set_rights.new.self _ c.set_rights.ensures)

pub returns : goal.returns
returns g c = pages_at-put (places_of c.self.inside.places.entries) c.self.inside.numbers.items c.self.inside.pages c.args.number c.in-Some.place c.self.invariant.0 c.self.invariant.1 (sym c.in-Some.ensures) c.set_rights.new.self c.args.self.now (page_with_rights c.args.rights) c.self.view_is c.set_rights.ensures
