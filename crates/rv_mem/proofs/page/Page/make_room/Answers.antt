use Rattle.rv_mem.proofs.page.Page.make_room.Goals as goal

pub invariant_of-self : goal.invariant_of-self
invariant_of-self c = c.make_room.ensures c.self.inside.shared c.self.invariant
