-- Registers that are read behind the answer of a call.
use Rattle.std.proofs.Common.{◌≡◌, ◌≢◌, ◌<◌, ℕ, zero, suc, List, [], ◌∷◌, get_or, length, refl, ap, arith}
use Rattle.std.specs.Prelude.{slice_set}

-- what is put at a place stands there, where there is such a place
pub put_there : (xs : List ℕ) (k v : ℕ) → k < length xs → get_or (slice_set xs k v) k 0 ≡ v
put_there [] k v within = absurd (omega arith)
put_there (x ∷ xs) zero v within = refl
put_there (x ∷ xs) (suc k) v within = put_there xs k v (omega arith)

-- and nothing else
pub put_beside : (xs : List ℕ) (k j v : ℕ) → j ≢ k → get_or (slice_set xs k v) j 0 ≡ get_or xs j 0
put_beside [] k j v apart = refl
put_beside (x ∷ xs) zero zero v apart = absurd (apart refl)
put_beside (x ∷ xs) zero (suc j) v apart = refl
put_beside (x ∷ xs) (suc k) zero v apart = refl
put_beside (x ∷ xs) (suc k) (suc j) v apart = put_beside xs k j v (λ same. apart (ap suc same))
