use Rattle.std.proofs.Common.{◌∙◌, ◌+◌, ◌&&◌, sym, ap}
use Rattle.std.specs.FinMap as map
use Rattle.rv_mem.proofs.TableLemmas.{has_pages-zero, has_pages-more, has_pages_refused}
use Rattle.rv_mem.proofs.table.Table.has_all.Goals as goal

pub loop-k-init : goal.loop-k-init
loop-k-init g c = has_pages-zero c.args.self.now c.args.first

pub returns-then-not-contains : goal.returns-then-not-contains
returns-then-not-contains g c = sym (has_pages_refused c.args.self.now c.args.first c.loop-k.k c.args.count c.loop-k-test.true (sym c.contains.ensures ∙ c.if-not-contains.true))

pub loop-k-preserved : goal.loop-k-preserved
loop-k-preserved g c =
    has_pages-more c.args.self.now c.args.first c.loop-k.k
    ∙ ap (λ b. b && map.contains_key c.args.self.now (c.args.first + c.loop-k.k)) c.loop-k.invariant
    ∙ sym c.contains.ensures ∙ c.if-not-contains.false
