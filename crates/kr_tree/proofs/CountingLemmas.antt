-- Numbers that are apart and below a bound are no more than that.
use Rattle.std.proofs.Common.{◌≡◌, inl, inr, zero, suc, ℕ, ◌<◌, ◌≤◌, nat_eq, true, false, cond, refl, sym, ◌∙◌, arith, eq-eqb}
use Rattle.std.proofs.lemmas.Bool.{cases_lt, eqb-true}

-- the numbers but for the last one, which stands where the greatest stood
abbrev moved : (ℕ → ℕ) → (n last : ℕ) → ℕ → ℕ
moved f n last k = cond (nat_eq (f k) last) (f n) (f k)

module _ (f : ℕ → ℕ) (n last : ℕ) (below : (k : ℕ) → k < suc n → f k < suc last) (apart : (i j : ℕ) → i < suc n → j < suc n → f i ≡ f j → i ≡ j) where
  moved-below : (k : ℕ) → k < n → moved f n last k < last
  moved-below k l =
      elim (nat_eq (f k) last) as (λ b. nat_eq (f k) last ≡ b → cond b (f n) (f k) < last) [
        | true ↦ λ t.
            let same : f k ≡ last = eqb-true (f k) last t in
            elim (cases_lt (f n) last) [
              | inl less ↦ less
              | inr more ↦
                  let within = below n (omega arith) in
                  let is : f n ≡ f k = omega arith in
                  let one = apart n k (omega arith) (omega arith) is in
                  absurd (omega arith)
            ]
        | false ↦ λ t.
            elim (cases_lt (f k) last) [
              | inl less ↦ less
              | inr more ↦
                  let within = below k (omega arith) in
                  let is : f k ≡ last = omega arith in
                  let no : true ≡ false = sym (eq-eqb (f k) last is) ∙ t in
                  absurd cc
            ]
      ] refl

  moved-apart : (i j : ℕ) → i < n → j < n → moved f n last i ≡ moved f n last j → i ≡ j
  moved-apart i j l m e =
      elim (nat_eq (f i) last) as (λ b. nat_eq (f i) last ≡ b → cond b (f n) (f i) ≡ moved f n last j → i ≡ j) [
        | true ↦ λ t e. elim (nat_eq (f j) last) as (λ b. nat_eq (f j) last ≡ b → f n ≡ cond b (f n) (f j) → i ≡ j) [
          | true ↦ λ u e. apart i j (omega arith) (omega arith) (eqb-true (f i) last t ∙ sym (eqb-true (f j) last u))
          | false ↦ λ u e. let one = apart n j (omega arith) (omega arith) e in absurd (omega arith)
        ] refl e
        | false ↦ λ t e. elim (nat_eq (f j) last) as (λ b. nat_eq (f j) last ≡ b → f i ≡ cond b (f n) (f j) → i ≡ j) [
          | true ↦ λ u e. let one = apart i n (omega arith) (omega arith) e in absurd (omega arith)
          | false ↦ λ u e. apart i j (omega arith) (omega arith) e
        ] refl e
      ] refl e

pub pigeonhole : (n m : ℕ) (f : ℕ → ℕ) → ((k : ℕ) → k < n → f k < m) → ((i j : ℕ) → i < n → j < n → f i ≡ f j → i ≡ j) → n ≤ m
pigeonhole zero m f below apart = omega arith
pigeonhole (suc n) zero f below apart = absurd (omega (arith, below n (omega arith)))
pigeonhole (suc n) (suc m) f below apart = omega (arith, pigeonhole n m (moved f n m) (moved-below f n m below apart) (moved-apart f n m below apart))
