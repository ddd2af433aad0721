-- The first of those that are left of a list.
use Rattle.std.proofs.Common.{◌≡◌, ◌≢◌, ℕ, zero, suc, ◌+◌, ◌-◌, ◌<◌, Bool, true, false, cond, List, [], ◌∷◌, length, drop, slice_get, get_or, Some, refl, sym, ap, ◌∙◌, arith}
use Rattle.std.specs.Prelude.{map as map_list}
use Rattle.std.specs.List.{filter}
use Rattle.std.proofs.lemmas.Option.{same_Some}
use Rattle.kr_perform.specs.kr_ops.Meaning.{process_meaning}
use Rattle.kr_perform.specs.kr_ops.declared.state.Process.{Process}

module _ {A : Type 0} where
  dropped-suc : (xs : List A) (n : ℕ) (x : A) → slice_get xs n ≡ Some x → drop n xs ≡ x ∷ drop (suc n) xs
  dropped-suc [] n x e = absurd cc
  dropped-suc (y ∷ xs) zero x e = ap (λ z. z ∷ xs) (same_Some y x e)
  dropped-suc (y ∷ xs) (suc n) x e = dropped-suc xs n x e

  pub dropped : (xs : List A) (n : ℕ) (x : A) → slice_get xs n ≡ Some x → drop n xs ≡ x ∷ drop (n + 1) xs
  dropped xs n x e = let more : suc n ≡ n + 1 = omega arith in dropped-suc xs n x e ∙ ap (λ m. x ∷ drop m xs) more

  module _ (test : A → Bool) (xs : List A) (n : ℕ) (x : A) (at : slice_get xs n ≡ Some x) where
    pub passed-first : test x ≡ true → slice_get (filter test (drop n xs)) 0 ≡ Some x
    passed-first is = ap (λ ys. slice_get (filter test ys) 0) (dropped xs n x at) ∙ ap (λ b. slice_get (cond b (x ∷ filter test (drop (n + 1) xs)) (filter test (drop (n + 1) xs))) 0) is

    pub passed-next : (before : ℕ) → test x ≡ true → before ≢ 0 → slice_get (filter test (drop n xs)) before ≡ slice_get (filter test (drop (n + 1) xs)) (before - 1)
    passed-next zero is some = absurd (some refl)
    passed-next (suc before) is some =
        ap (λ ys. slice_get (filter test ys) (suc before)) (dropped xs n x at)
        ∙ ap (λ b. slice_get (cond b (x ∷ filter test (drop (n + 1) xs)) (filter test (drop (n + 1) xs))) (suc before)) is
        ∙ (let less : before ≡ suc before - 1 = omega arith in ap (slice_get (filter test (drop (n + 1) xs))) less)

    pub failed-next : (before : ℕ) → test x ≡ false → slice_get (filter test (drop n xs)) before ≡ slice_get (filter test (drop (n + 1) xs)) before
    failed-next before is =
        ap (λ ys. slice_get (filter test ys) before) (dropped xs n x at) ∙ ap (λ b. slice_get (cond b (x ∷ filter test (drop (n + 1) xs)) (filter test (drop (n + 1) xs))) before) is

    pub passed-more : test x ≡ true → length (filter test (drop n xs)) ≡ suc (length (filter test (drop (n + 1) xs)))
    passed-more is = ap (λ ys. length (filter test ys)) (dropped xs n x at) ∙ ap (λ b. length (cond b (x ∷ filter test (drop (n + 1) xs)) (filter test (drop (n + 1) xs)))) is

    pub failed-same : test x ≡ false → length (filter test (drop n xs)) ≡ length (filter test (drop (n + 1) xs))
    failed-same is =
        ap (λ ys. length (filter test ys)) (dropped xs n x at) ∙ ap (λ b. length (cond b (x ∷ filter test (drop (n + 1) xs)) (filter test (drop (n + 1) xs)))) is

-- a number and what is left of a list are the whole, before and after an element was counted or left out
pub counted-more : {more left next whole : ℕ} (number : ℕ) → number + left ≡ whole → left ≡ suc next → more ≡ number + 1 → more + next ≡ whole
counted-more number all is more = omega arith

pub counted-same : {same left next whole : ℕ} (number : ℕ) → number + left ≡ whole → left ≡ next → same ≡ number → same + next ≡ whole
counted-same number all is same = omega arith

-- the process at a place of the list in code
pub process-at : {T : Type 0} {M : ℕ} (ps : List (Process T M)) (k : ℕ) (p : Process T M) → k < length ps → p ≡ get_or ps k p → slice_get (map_list process_meaning ps) k ≡ Some (process_meaning p)
process-at [] k p low e = absurd (omega arith)
process-at (q ∷ ps) zero p low e = ap (λ (p : Process _ _). Some (process_meaning p)) (sym e)
process-at (q ∷ ps) (suc k) p low e = process-at ps k p (omega arith) e

-- the list of the model has an element where the list in code has one
pub element : {T : Type 0} {M : ℕ} (ps : List (Process T M)) (k : ℕ) → k < length ps → (p : Process T M) × (slice_get (map_list process_meaning ps) k ≡ Some (process_meaning p))
element [] k low = absurd (omega arith)
element (p ∷ ps) zero low = (p, refl)
element (p ∷ ps) (suc k) low = element ps k (omega arith)
