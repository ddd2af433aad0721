use Rattle.std.proofs.Common.{◌≡◌, ◌≢◌, ◌≤◌, ◌<◌, ℕ, List, ◌∷◌, ◌++◌, length, All}
use Rattle.kr_view.specs.kr_tree.pr_base.Paths.{slash}
use Rattle.kr_walk.proofs.name.last_slash.Given as goal

abbrev pub invariant-loop-end : goal.invariant-loop-end
invariant-loop-end l = record {
  within : l.end ≤ length l.path;
  last : (front name : List ℕ) → l.path ≡ front ++ slash ∷ name → All (λ b. b ≢ slash) name → length front < l.end;
}

abbrev pub decreases-loop-end : goal.decreases-loop-end
decreases-loop-end l = l.end
