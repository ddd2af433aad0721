use Rattle.std.proofs.Common.{◌≡◌, ◌++◌}
use Rattle.pr_gen.specs.Draws.{after_directories}
use Rattle.pr_gen.specs.Listing.{directory_lines}
use Rattle.pr_gen.proofs.listing.directory_lines.Given as goal

abbrev pub invariant-loop-d : goal.invariant-loop-d
invariant-loop-d l = (l.out.items ≡ l.fn.out.items ++ directory_lines l.d l.fn.draws.state) × (l.draws.state ≡ after_directories l.d l.fn.draws.state)
