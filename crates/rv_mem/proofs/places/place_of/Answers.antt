use Rattle.std.proofs.Common.{◌∙◌, refl}
use Rattle.rv_table.proofs.pr_base.BTreeLemmas.{get-view}
use Rattle.rv_mem.specs.Places.{places_of}
use Rattle.rv_mem.proofs.places.place_of.Goals as goal

pub returns-in-Some : goal.returns-in-Some
returns-in-Some c = c.in-Some.ensures.value ∙ get-view c.args.places.now.entries (places_of c.args.places.now.entries) c.args.number refl

pub returns-in-None : goal.returns-in-None
returns-in-None c = c.in-None.ensures.value ∙ get-view c.args.places.now.entries (places_of c.args.places.now.entries) c.args.number refl
