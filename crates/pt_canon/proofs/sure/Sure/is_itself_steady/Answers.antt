use Rattle.std.proofs.Common.{sym}
use Rattle.pt_canon.proofs.sure.Sure.is_itself_steady.Goals as goal

pub returns-then-covers_itself-clause-answer : goal.returns-then-covers_itself-clause-answer
returns-then-covers_itself-clause-answer g c =
    sym (c.covers_itself.ensures c.if-covers_itself.true (g.K.Peeks.peeked c.args.kernel.now) (g.met.K.Peeks.fronts_are_steady c.args.kernel.now) c.requires.sure)
