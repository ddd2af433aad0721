use Rattle.kr_seen.proofs.targets.moved.Goals as goal

pub returns : goal.returns
returns g c = λ pid s. cc (c.taken.ensures pid s, c.taken-2.ensures pid s, c.same.ensures)
