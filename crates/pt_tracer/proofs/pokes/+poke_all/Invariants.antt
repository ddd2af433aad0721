use Rattle.std.proofs.Common.{length}
use Rattle.pt_tracer.proofs.pokes.+poke_all.Given as goal

abbrev pub decreases-poke_all : goal.decreases-poke_all
decreases-poke_all g l = length l.pokes.now
