use Rattle.std.proofs.Common.{◌≡◌, drop}
use Rattle.kr_view.specs.kr_tree.pr_base.Paths.{parts_of}
use Rattle.kr_walk.proofs.rest.slashes.Given as goal

abbrev pub invariant-loop-at : goal.invariant-loop-at
invariant-loop-at l = parts_of (drop l.at l.path) ≡ parts_of l.path
