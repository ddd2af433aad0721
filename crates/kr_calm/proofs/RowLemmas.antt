-- The rows of a table, one after the other.
use Rattle.std.proofs.Common.{◌≡◌, ℕ, zero, suc, ◌+◌, ◌<◌, ◌≤◌, Bool, true, false, ◌||◌, List, [], ◌∷◌, length, take, Option, Some, None, refl, sym, ap, ◌∙◌, subst, arith}
use Rattle.std.specs.List.{list_any}
use Rattle.std.specs.Option.{option_map}
use Rattle.std.proofs.lemmas.Option.{none-some, same_Some}
use Rattle.std.proofs.lemmas.Bool.{or_parts}
use Rattle.kr_seen.specs.kr_view.View.{Row, Shown, row, shown}

-- what is told of a row is of a row
pub row-shown : (rows : List Row) (k : ℕ) (x : Shown) → Some x ≡ option_map shown (row rows k) → (r : Row) × (row rows k ≡ Some r) × (x ≡ shown r)
row-shown rows k x e = by (row rows k) refl e
  where
    by : (o : Option Row) → row rows k ≡ o → Some x ≡ option_map shown o → (r : Row) × (row rows k ≡ Some r) × (x ≡ shown r)
    by None is e = absurd (none-some x (sym e))
    by (Some r) is e = (r, is, same_Some x (shown r) e)

pub no-row : (rows : List Row) (k : ℕ) → None ≡ option_map shown (row rows k) → row rows k ≡ None
no-row rows k e = by (row rows k) refl e
  where
    by : (o : Option Row) → row rows k ≡ o → None ≡ option_map shown o → row rows k ≡ None
    by None is e = is
    by (Some r) is e = absurd (none-some (shown r) e)

row-within : (rows : List Row) (k : ℕ) (r : Row) → row rows k ≡ Some r → k < length rows
row-within [] k r e = absurd cc
row-within (q ∷ rows) zero r e = omega arith
row-within (q ∷ rows) (suc k) r e = let l = row-within rows k r e in omega arith

pub row-below : (rows : List Row) (k : ℕ) (x : Shown) → Some x ≡ option_map shown (row rows k) → k < length rows
row-below rows k x e = let at = row-shown rows k x e in row-within rows k at.0 at.1

module _ (test : Row → Bool) where
  pub some-row : (rows : List Row) (k : ℕ) (r : Row) → row rows k ≡ Some r → test r ≡ true → list_any test rows ≡ true
  some-row [] k r e h = absurd cc
  some-row (q ∷ rows) zero r e h = ap (λ b. b || list_any test rows) (ap test (same_Some q r e) ∙ h)
  some-row (q ∷ rows) (suc k) r e h = by (test q) (some-row rows k r e h)
    where
      by : (b : Bool) → list_any test rows ≡ true → (b || list_any test rows) ≡ true
      by true rest = refl
      by false rest = rest

  one-more : (rows : List Row) (k : ℕ) (r : Row) → row rows k ≡ Some r → test r ≡ false → list_any test (take k rows) ≡ false → list_any test (take (suc k) rows) ≡ false
  one-more [] k r e h before = absurd cc
  one-more (q ∷ rows) zero r e h before = ap (λ b. b || false) (ap test (same_Some q r e) ∙ h)
  one-more (q ∷ rows) (suc k) r e h before =
      let parts = or_parts (test q) (list_any test (take k rows)) before in
      ap (λ b. b || list_any test (take (suc k) rows)) parts.0 ∙ one-more rows k r e h parts.1

  pub next-row : (rows : List Row) (k next : ℕ) (r : Row) → row rows k ≡ Some r → next ≡ k + 1 → test r ≡ false → list_any test (take k rows) ≡ false
      → (list_any test (take next rows) ≡ false) × (next ≤ length rows)
  next-row rows k next r e more h before =
      let within = row-within rows k r e in
      let same : suc k ≡ next = omega arith in
      (subst (λ n. list_any test (take n rows) ≡ false) same (one-more rows k r e h before), omega arith)

  -- behind the last row
  pub all-rows : (rows : List Row) (k : ℕ) → row rows k ≡ None → list_any test (take k rows) ≡ false → list_any test rows ≡ false
  all-rows [] k e before = refl
  all-rows (q ∷ rows) zero e before = absurd cc
  all-rows (q ∷ rows) (suc k) e before =
      let parts = or_parts (test q) (list_any test (take k rows)) before in
      ap (λ b. b || list_any test rows) parts.0 ∙ all-rows rows k e parts.1
