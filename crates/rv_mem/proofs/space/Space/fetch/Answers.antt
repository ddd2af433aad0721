use Rattle.rv_mem.proofs.space.Space.fetch.Goals as goal

pub invariant_of-self : goal.invariant_of-self
invariant_of-self g c = rw c.fetch.ensures.same c.self.invariant

pub invariant_of-self-in-None : goal.invariant_of-self-in-None
invariant_of-self-in-None g c = rw c.fetch.ensures.same c.self.invariant
