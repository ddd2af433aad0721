-- Bytes cut at the first of a kind.
use Rattle.std.proofs.Common.{◌≡◌, ℕ, ◌+◌, ◌<◌, List, [], ◌∷◌, length, Bool, true, false, Some, None, refl, sym, ap, ◌∙◌, arith}
use Rattle.std.specs.Prelude.{nat_eq, nat_lt}
use Rattle.std.specs.List.{slice_split, position_or_len, before_first, after_first}
use Rattle.std.proofs.lemmas.Bool.{ltb-true, lt-ltb}
use Rattle.std.proofs.lemmas.List.{length-drop}
use Rattle.std.proofs.lemmas.List.Splits.{slice_split_first, slice_split_none}
use Rattle.std.proofs.lemmas.List.Sums.{fails_before_first}
use Rattle.pr_words.specs.Spelling.{cut_at}

abbrev pub is_byte : ℕ → ℕ → Bool
is_byte c b = nat_eq b c

abbrev pub first_at : ℕ → List ℕ → ℕ
first_at c bs = position_or_len (is_byte c) bs

-- whether there is such a byte
abbrev pub has : ℕ → List ℕ → Bool
has c bs = nat_lt (first_at c bs) (length bs)

cut_here : (c : ℕ) (bs : List ℕ) → has c bs ≡ true → cut_at c bs ≡ Some (before_first (is_byte c) bs, after_first (is_byte c) bs)
cut_here c bs h = rw h refl

cut_nowhere : (c : ℕ) (bs : List ℕ) → has c bs ≡ false → cut_at c bs ≡ None
cut_nowhere c bs h = rw h refl

pub cut_inside : (c : ℕ) (bs a b : List ℕ) → cut_at c bs ≡ Some (a, b) → has c bs ≡ true
cut_inside c bs a b e = by_case (has c bs) refl
  where
    by_case : (h : Bool) → has c bs ≡ h → has c bs ≡ true
    by_case true h = h
    by_case false h = let no = cut_nowhere c bs h in cc

pub cut_parts : (c : ℕ) (bs a b : List ℕ) → cut_at c bs ≡ Some (a, b) → (a ≡ before_first (is_byte c) bs) × (b ≡ after_first (is_byte c) bs)
cut_parts c bs a b e =
    let here = cut_here c bs (cut_inside c bs a b e) in
    let both : (a, b) ≡ (before_first (is_byte c) bs, after_first (is_byte c) bs) = cc in
    (ap (λ (x : List ℕ × List ℕ). x.0) both, ap (λ (x : List ℕ × List ℕ). x.1) both)

-- the first piece, and those behind it
pub split_cut : (c : ℕ) (bs a b : List ℕ) → cut_at c bs ≡ Some (a, b) → slice_split (is_byte c) bs ≡ a ∷ slice_split (is_byte c) b
split_cut c bs a b e =
    let parts = cut_parts c bs a b e in
    let first = slice_split_first (is_byte c) bs 0 (ltb-true _ _ (cut_inside c bs a b e)) in
    first ∙ ap (λ x. x ∷ slice_split (is_byte c) (after_first (is_byte c) bs)) (sym parts.0) ∙ ap (λ x. a ∷ slice_split (is_byte c) x) (sym parts.1)

-- what is behind is shorter
pub cut_shorter : (c : ℕ) (bs a b : List ℕ) → cut_at c bs ≡ Some (a, b) → length b < length bs
cut_shorter c bs a b e =
    let parts = cut_parts c bs a b e in
    let inside = ltb-true _ _ (cut_inside c bs a b e) in
    let len = ap length parts.1 ∙ length-drop (first_at c bs + 1) bs in
    omega (arith, len, inside)

-- the last piece
pub split_last : (c : ℕ) (bs : List ℕ) → cut_at c bs ≡ None → slice_split (is_byte c) bs ≡ bs ∷ []
split_last c bs e = slice_split_none (is_byte c) bs (λ k d inside. fails_before_first (is_byte c) bs k d (by_case (has c bs) refl k inside))
  where
    by_case : (h : Bool) → has c bs ≡ h → (k : ℕ) → k < length bs → k < first_at c bs
    by_case true h k inside = let yes = cut_here c bs h in cc
    by_case false h k inside = let past : (first_at c bs < length bs) → ⊥ = λ l. let yes = lt-ltb _ _ l in cc in omega (arith, past, inside)
