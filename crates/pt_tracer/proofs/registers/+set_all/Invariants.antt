use Rattle.std.proofs.Common.{length}
use Rattle.pt_tracer.proofs.registers.+set_all.Given as goal

abbrev pub decreases-set_all : goal.decreases-set_all
decreases-set_all g l = length l.registers.now
