use Rattle.std.proofs.Common.{◌≡◌, ◌++◌}
use Rattle.pr_gen.specs.Listing.{target_lines}
use Rattle.pr_gen.proofs.listing.target_lines.Given as goal

abbrev pub invariant-loop-k : goal.invariant-loop-k
invariant-loop-k l = l.out.items ≡ l.fn.out.items ++ target_lines l.k
