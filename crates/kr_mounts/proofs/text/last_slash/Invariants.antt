use Rattle.std.proofs.Common.{◌≡◌, ◌≢◌, ◌≤◌, ◌<◌, ℕ, List, ◌∷◌, ◌++◌, length, All}
use Rattle.pt_bind.specs.pr_base.Paths.{slash}
use Rattle.kr_mounts.proofs.text.last_slash.Given as goal

abbrev pub invariant-loop-end : goal.invariant-loop-end
invariant-loop-end l = record {
  within : l.end ≤ length l.bytes;
  last : (front name : List ℕ) → l.bytes ≡ front ++ slash ∷ name → All (λ b. b ≢ slash) name → length front < l.end;
}

abbrev pub decreases-loop-end : goal.decreases-loop-end
decreases-loop-end l = l.end
