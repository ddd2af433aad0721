use Rattle.kr_ops.specs.Meaning.{meaning}
use Rattle.kr_seen.specs.Numbered.{state_numbered}
use Rattle.kr_seen.proofs.targets.linked.Goals as goal

pub returns-in-Some : goal.returns-in-Some
returns-in-Some g c = λ pid.
    rw c.in-Some.is (cc (c.looked_at.ensures pid, c.made.ensures g.P.Places.number (g.P.Places.mounts c.args.places.now) pid (state_numbered g.P.Places.number (meaning c.args.state.now)), c.same.ensures))
