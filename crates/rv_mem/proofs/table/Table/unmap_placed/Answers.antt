use Rattle.std.proofs.Common.{◌∙◌, arith}
use Rattle.rv_mem.proofs.TableLemmas.{unmapped_all}
use Rattle.rv_mem.proofs.table.Table.unmap_placed.Goals as goal

pub returns-then-count-ge-ALL_PAGES : goal.returns-then-count-ge-ALL_PAGES
returns-then-count-ge-ALL_PAGES g c = c.clear.ensures ∙ unmapped_all c.args.self.now c.args.first c.args.count c.requires.placed c.if-first-eq0.true (omega (arith, c.if-count-ge-ALL_PAGES.true))
