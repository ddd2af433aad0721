use Rattle.std.proofs.Common.{◌≢◌, take, All}
use Rattle.kr_view.specs.kr_tree.pr_base.Paths.{slash}
use Rattle.kr_walk.proofs.rest.name_length.Given as goal

abbrev pub invariant-loop-at : goal.invariant-loop-at
invariant-loop-at l = All (λ b. b ≢ slash) (take l.at l.path)
