-- Texts at their places.
use Rattle.std.proofs.Common.{◌≡◌, ℕ, zero, suc, ◌+◌, List, [], ◌∷◌, Some, drop, ap, ◌∙◌, arith}
use Rattle.std.specs.Prelude.{slice_get}

pub drop-at : {A : Type 0} (xs : List A) (k : ℕ) (x : A) → slice_get xs k ≡ Some x → drop k xs ≡ x ∷ drop (k + 1) xs
drop-at [] k x e = cc
drop-at (y ∷ xs) zero x e = let same : y ≡ x = cc in ap (λ z. z ∷ xs) same
drop-at (y ∷ xs) (suc k) x e =
    let next : suc (k + 1) ≡ suc k + 1 = omega arith in
    drop-at xs k x e ∙ ap (λ j. x ∷ drop j (y ∷ xs)) next
