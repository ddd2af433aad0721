-- Texts at their places, and the first bytes of a file.
use Rattle.std.proofs.Common.{◌≡◌, ◌≤◌, ℕ, zero, suc, ◌+◌, Bool, true, false, List, [], ◌∷◌, Some, length, take, drop, refl, sym, ap, ◌∙◌, arith, take_all}
use Rattle.std.specs.Prelude.{slice_get, nat_lt, min}
use Rattle.std.proofs.lemmas.Bool.Decides.{nat_tests}

pub drop-at : {A : Type 0} (xs : List A) (k : ℕ) (x : A) → slice_get xs k ≡ Some x → drop k xs ≡ x ∷ drop (k + 1) xs
drop-at [] k x e = cc
drop-at (y ∷ xs) zero x e = let same : y ≡ x = cc in ap (λ z. z ∷ xs) same
drop-at (y ∷ xs) (suc k) x e =
    let next : suc (k + 1) ≡ suc k + 1 = omega arith in
    drop-at xs k x e ∙ ap (λ j. x ∷ drop j (y ∷ xs)) next

-- no more bytes than there are
pub take-least : (bytes : List ℕ) (k n : ℕ) → k ≡ min (length bytes) n → take k bytes ≡ take n bytes
take-least bytes k n is = by (nat_lt (length bytes) n) refl
  where
    by : (b : Bool) → nat_lt (length bytes) n ≡ b → take k bytes ≡ take n bytes
    by true e =
        let short : length bytes ≤ n = grind (arith, nat_tests) in
        let all : length bytes ≤ k = omega arith in
        take_all k bytes all ∙ sym (take_all n bytes short)
    by false e =
        let long : n ≤ length bytes = grind (arith, nat_tests) in
        let same : k ≡ n = omega arith in
        ap (λ j. take j bytes) same
