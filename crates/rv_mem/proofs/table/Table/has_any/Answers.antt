use Rattle.std.proofs.Common.{◌∙◌}
use Rattle.rv_mem.proofs.LayoutLemmas.{any_by_next}
use Rattle.rv_mem.proofs.table.Table.has_any.Goals as goal

pub returns : goal.returns
returns g c = c.is_some.ensures ∙ any_by_next c.args.self.now c.args.first c.args.count c.next.result c.next.ensures.none c.next.ensures.some c.next.ensures.there
