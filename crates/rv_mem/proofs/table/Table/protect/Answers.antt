use Rattle.std.proofs.Common.{◌+◌, ◌∙◌, sym, ap}
use Rattle.rv_mem.specs.Page.{page_with_rights}
use Rattle.rv_mem.specs.Pages.{with_page}
use Rattle.rv_mem.proofs.TableLemmas.{protected-zero, protected-more}
use Rattle.rv_mem.proofs.table.Table.protect.Goals as goal

pub loop-k-init : goal.loop-k-init
loop-k-init g c = sym (protected-zero c.args.self.now c.args.first c.args.rights)

pub loop-k-preserved : goal.loop-k-preserved
loop-k-preserved g c =
    c.set_rights.ensures
    ∙ ap (λ m. with_page m (c.args.first + c.loop-k.k) (page_with_rights c.args.rights)) c.loop-k.invariant
    ∙ sym (protected-more c.args.self.now c.args.first c.loop-k.k c.args.rights)
