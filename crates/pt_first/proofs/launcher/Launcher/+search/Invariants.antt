use Rattle.std.proofs.Common.{length}
use Rattle.pt_first.proofs.launcher.Launcher.+search.Given as goal

abbrev pub decreases-search : goal.decreases-search
decreases-search g l = length l.dirs.now
