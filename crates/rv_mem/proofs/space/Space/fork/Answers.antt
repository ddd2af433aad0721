use Rattle.rv_mem.proofs.space.Space.fork.Goals as goal

pub invariant_of-result : goal.invariant_of-result
invariant_of-result g c = rw c.in_ok-pages.ensures c.self.invariant
