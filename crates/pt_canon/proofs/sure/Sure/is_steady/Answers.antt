use Rattle.std.proofs.Common.{sym}
use Rattle.pt_canon.proofs.sure.Sure.is_steady.Goals as goal

pub returns-then-covers-clause-answer : goal.returns-then-covers-clause-answer
returns-then-covers-clause-answer g c =
    sym (c.covers.ensures c.if-covers.true (g.K.Peeks.peeked c.args.kernel.now) (g.met.K.Peeks.fronts_are_steady c.args.kernel.now) c.requires.sure)
