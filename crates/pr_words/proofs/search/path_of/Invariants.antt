use Rattle.std.proofs.Common.{◌≡◌}
use Rattle.std.specs.Prelude.{drop}
use Rattle.pr_words.specs.Command.{path_of}
use Rattle.pr_words.proofs.search.path_of.Given as goal

abbrev pub invariant-loop-k : goal.invariant-loop-k
invariant-loop-k l = path_of l.env ≡ path_of (drop l.k l.env)
