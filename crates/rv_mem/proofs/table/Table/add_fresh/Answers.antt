use Rattle.std.proofs.Common.{◌∙◌, sym}
use Rattle.rv_mem.specs.Page.{fresh_page}
use Rattle.rv_mem.proofs.PlaceLemmas.{put_over}
use Rattle.rv_mem.proofs.table.Table.add_fresh.Goals as goal

pub returns-then-contains-clause-ok : goal.returns-then-contains-clause-ok
returns-then-contains-clause-ok g c = c.reset.ensures ∙ put_over c.args.self.now c.args.number (fresh_page c.args.rights) (sym c.contains.ensures ∙ c.if-contains.true)
