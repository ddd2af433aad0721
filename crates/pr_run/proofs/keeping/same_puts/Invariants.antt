use Rattle.std.proofs.Common.{◌≡◌, take}
use Rattle.pr_run.specs.Keeping.{puts_told}
use Rattle.pr_run.proofs.keeping.same_puts.Given as goal

abbrev pub invariant-loop-k : goal.invariant-loop-k
invariant-loop-k l = puts_told (take l.k l.a) ≡ puts_told (take l.k l.b)
