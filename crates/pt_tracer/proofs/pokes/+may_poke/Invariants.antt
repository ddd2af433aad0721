use Rattle.std.proofs.Common.{length}
use Rattle.pt_tracer.proofs.pokes.+may_poke.Given as goal

abbrev pub decreases-may_poke : goal.decreases-may_poke
decreases-may_poke g l = length l.pokes.now
