use Rattle.std.proofs.Common.{ap}
use Rattle.kr_ops.specs.kr_model.Seen.{OpensFound}
use Rattle.kr_seen.proofs.targets.created.Goals as goal

pub returns-in-Some : goal.returns-in-Some
returns-in-Some g c = λ pid. rw (c.in-Name.is, c.if-target.false, c.in-Some.is) (ap OpensFound (c.looked_at.ensures pid))
