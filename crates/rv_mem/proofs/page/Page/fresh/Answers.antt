use Rattle.rv_mem.proofs.page.Page.fresh.Goals as goal

pub invariant_of-result : goal.invariant_of-result
invariant_of-result c = c.none-code.ensures c.zeros-shared.result
