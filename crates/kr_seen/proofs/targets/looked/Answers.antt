use Rattle.kr_seen.proofs.targets.looked.Goals as goal

pub returns-in-Some : goal.returns-in-Some
returns-in-Some g c = λ pid. cc (c.looked_at.ensures pid)
