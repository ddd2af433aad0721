use Rattle.std.proofs.Common.{◌≡◌, ◌++◌}
use Rattle.pr_gen.specs.Draws.{after_files}
use Rattle.pr_gen.specs.Listing.{file_lines}
use Rattle.pr_gen.proofs.listing.file_lines.Given as goal

abbrev pub invariant-loop-f : goal.invariant-loop-f
invariant-loop-f l = (l.out.items ≡ l.fn.out.items ++ file_lines l.d l.f l.fn.draws.state) × (l.draws.state ≡ after_files l.f l.fn.draws.state)
