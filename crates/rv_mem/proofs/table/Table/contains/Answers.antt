use Rattle.std.proofs.Common.{◌∙◌, ap, sym, refl, is_some}
use Rattle.std.specs.FinMap as map
use Rattle.rv_table.proofs.pr_base.BTreeLemmas.{get-view}
use Rattle.rv_mem.specs.Places.{places_of}
use Rattle.rv_mem.proofs.PlaceLemmas.{contains-pages_at}
use Rattle.rv_mem.proofs.table.Table.contains.Goals as goal

pub returns : goal.returns
returns g c =
    let places = places_of c.self.inside.places.entries in
    c.contains_key.ensures ∙ ap is_some (get-view c.self.inside.places.entries places c.args.number refl)
    ∙ sym (contains-pages_at places c.self.inside.pages c.args.number) ∙ ap (λ m. map.contains_key m c.args.number) c.self.view_is
