use Rattle.std.proofs.Common.{length}
use Rattle.pr_start.proofs.command.+search.Given as goal

abbrev pub decreases-search : goal.decreases-search
decreases-search l = length l.dirs.now
