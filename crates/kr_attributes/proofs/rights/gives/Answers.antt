use Rattle.kr_attributes.proofs.rights.gives.Goals as goal

pub returns : goal.returns
returns g c = λ pid.
    cc (c.gives_right-reads.ensures pid, c.gives_right-writes.ensures pid, c.gives_right-searches.ensures pid)
