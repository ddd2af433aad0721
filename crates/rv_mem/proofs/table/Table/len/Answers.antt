use Rattle.std.proofs.Common.{◌∙◌, ap, sym}
use Rattle.std.specs.FinMap as map
use Rattle.rv_table.proofs.pr_base.BTreeLemmas.{len-from_entries}
use Rattle.rv_mem.specs.Places.{places_of}
use Rattle.rv_mem.proofs.PlaceLemmas.{len-pages_at}
use Rattle.rv_mem.proofs.table.Table.len.Goals as goal

pub returns : goal.returns
returns g c =
    c.len.ensures.len ∙ sym (len-from_entries _ c.len.ensures.ordered)
    ∙ sym (len-pages_at (places_of c.self.inside.places.entries) c.self.inside.pages) ∙ ap map.len c.self.view_is
