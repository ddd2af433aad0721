-- Pages in a list, whose marks stand apart.
use Rattle.std.proofs.Common.{◌≡◌, ◌≢◌, inl, inr, ℕ, zero, suc, ◌<◌, ◌≤◌, Bool, false, List, [], ◌∷◌, ◌++◌, length, refl, sym, ap, ◌∙◌, arith}
use Rattle.std.specs.Prelude.{slice_set, slice_index_or}
use Rattle.std.proofs.lemmas.Bool.{cases_eq}
use Rattle.std.proofs.lemmas.List.{length-set, get_or-set_same, get_or-set_other, get_or_default}
use Rattle.rv_mem.specs.declared.marks.Marks.{Marks}
use Rattle.rv_mem.specs.Marks.{no_marks, marks_of, kept_marks, marks_at, IsChangedAt}
use Rattle.rv_mem.specs.Page.{PageState}
use Rattle.rv_mem.proofs.PageLemmas.{kept_marks-unkept, kept_marks-kept, kept_marks-none, sets-no_marks}
use Rattle.std.proofs.Math.Seq.{sets}
use Rattle.std.specs.Prelude.{replicate}
use Rattle.rv_mem.specs.PageList.{Unmarked, with_marks, pages_of}
use Rattle.rv_mem.specs.Places.{page_at, no_page}

-- ---- marks in a list

pub marks_at-here : (marked : ℕ) (ms : List Marks) (i : ℕ) (d : Marks) → i < length ms → marks_at marked ms i ≡ kept_marks marked (slice_index_or ms i d)
unfolding marks_at
marks_at-here marked [] i d h = absurd (omega (arith, h))
marks_at-here marked (m ∷ ms) zero d h = refl
marks_at-here marked (m ∷ ms) (suc i) d h = marks_at-here marked ms i d (omega (arith, h))

pub marks_at-past : (marked : ℕ) (ms : List Marks) (i : ℕ) → length ms ≤ i → marks_at marked ms i ≡ no_marks
unfolding marks_at
marks_at-past marked [] i h = refl
marks_at-past marked (m ∷ ms) zero h = absurd (omega (arith, h))
marks_at-past marked (m ∷ ms) (suc i) h = marks_at-past marked ms i (omega (arith, h))

marks_at-set_same : (marked : ℕ) (ms : List Marks) (i : ℕ) (m : Marks) → i < length ms → marks_at marked (slice_set ms i m) i ≡ kept_marks marked m
unfolding marks_at
marks_at-set_same marked [] i m h = absurd (omega (arith, h))
marks_at-set_same marked (x ∷ ms) zero m h = refl
marks_at-set_same marked (x ∷ ms) (suc i) m h = marks_at-set_same marked ms i m (omega (arith, h))

marks_at-set_other : (marked : ℕ) (ms : List Marks) (i j : ℕ) (m : Marks) → j ≢ i → marks_at marked (slice_set ms i m) j ≡ marks_at marked ms j
unfolding marks_at
marks_at-set_other marked [] i j m d = refl
marks_at-set_other marked (x ∷ ms) zero zero m d = absurd (d refl)
marks_at-set_other marked (x ∷ ms) zero (suc j) m d = refl
marks_at-set_other marked (x ∷ ms) (suc i) zero m d = refl
marks_at-set_other marked (x ∷ ms) (suc i) (suc j) m d = marks_at-set_other marked ms i j m (λ e. d (ap suc e))

-- other marks put at a place of the list
pub changed-set : (marked : ℕ) (ms : List Marks) (i : ℕ) (m : Marks) → i < length ms → IsChangedAt marked ms (slice_set ms i m) i (kept_marks marked m)
changed-set marked ms i m low = record {
  here = marks_at-set_same marked ms i m low;
  others = λ j d. marks_at-set_other marked ms i j m d;
}

-- none changed
pub changed-none : (marked : ℕ) (ms : List Marks) (i : ℕ) → IsChangedAt marked ms ms i (marks_at marked ms i)
changed-none marked ms i = record { here = refl; others = λ j d. refl }

-- one more of a page without a mark
pub marks_at-push : (marked : ℕ) (ms : List Marks) (m : Marks) (i : ℕ) → marks_of m ≡ no_marks → marks_at marked (ms ++ m ∷ []) i ≡ marks_at marked ms i
unfolding marks_at
marks_at-push marked [] m zero is = kept_marks-none marked m is
marks_at-push marked [] m (suc i) is = refl
marks_at-push marked (x ∷ ms) m zero is = refl
marks_at-push marked (x ∷ ms) m (suc i) is = marks_at-push marked ms m i is

-- where none are kept
pub marks_at-unkept : (marked : ℕ) (ms : List Marks) (i : ℕ) → marked ≡ 0 → marks_at marked ms i ≡ no_marks
unfolding marks_at
marks_at-unkept marked [] i h = refl
marks_at-unkept marked (m ∷ ms) zero h = kept_marks-unkept marked m h
marks_at-unkept marked (m ∷ ms) (suc i) h = marks_at-unkept marked ms i h

-- a part of the marks of one page set or cleared
pub changed-part : (marked : ℕ) (ms ns : List Marks) (i : ℕ) (m n : Marks) (from count : ℕ) (v : Bool) → (marked ≡ 0 → ⊥) → i < length ms → ns ≡ slice_set ms i n → m ≡ slice_index_or ms i m
    → marks_of n ≡ sets (marks_of m) from (replicate count v) → IsChangedAt marked ms ns i (sets (marks_at marked ms i) from (replicate count v))
changed-part marked ms ns i m n from count v kept low set is does =
    let was : marks_at marked ms i ≡ marks_of m = marks_at-here marked ms i m low ∙ ap (kept_marks marked) (sym is) ∙ kept_marks-kept marked m kept in
    let changed = changed-set marked ms i n low in
    record {
      here = ap (λ l. marks_at marked l i) set ∙ changed.here ∙ kept_marks-kept marked n kept ∙ does ∙ ap (λ l. sets l from (replicate count v)) (sym was);
      others = λ j d. ap (λ l. marks_at marked l j) set ∙ changed.others j d;
    }

-- a part of a page's marks cleared, whether they are kept or not
pub kept-cleared : (marked : ℕ) (m n : Marks) (from count : ℕ) → marks_of n ≡ sets (marks_of m) from (replicate count false) → kept_marks marked n ≡ sets (kept_marks marked m) from (replicate count false)
kept-cleared marked m n from count does =
    elim (cases_eq marked 0) [
      | inl e ↦ kept_marks-unkept marked n e ∙ sym (sets-no_marks from count) ∙ ap (λ l. sets l from (replicate count false)) (sym (kept_marks-unkept marked m e))
      | inr d ↦ kept_marks-kept marked n d ∙ does ∙ ap (λ l. sets l from (replicate count false)) (sym (kept_marks-kept marked m d))
    ]

-- none to clear
pub changed-no_part : (marked : ℕ) (ms : List Marks) (i from count : ℕ) → marks_at marked ms i ≡ no_marks → IsChangedAt marked ms ms i (sets (marks_at marked ms i) from (replicate count false))
changed-no_part marked ms i from count is = record {
  here = is ∙ sym (sets-no_marks from count) ∙ ap (λ l. sets l from (replicate count false)) (sym is);
  others = λ j d. refl;
}

-- ---- pages with their marks

pub length-pages_of : (marked : ℕ) (ps : List Unmarked) (ms : List Marks) → length (pages_of marked ps ms) ≡ length ps
unfolding pages_of
length-pages_of marked [] ms = refl
length-pages_of marked (p ∷ ps) [] = ap suc (length-pages_of marked ps [])
length-pages_of marked (p ∷ ps) (m ∷ ms) = ap suc (length-pages_of marked ps ms)

page_at-pages_of : (marked : ℕ) (ps : List Unmarked) (ms : List Marks) (i : ℕ) (d : Unmarked) → i < length ps → page_at (pages_of marked ps ms) i ≡ with_marks (slice_index_or ps i d) (marks_at marked ms i)
unfolding pages_of marks_at
page_at-pages_of marked [] ms i d h = absurd (omega (arith, h))
page_at-pages_of marked (p ∷ ps) [] zero d h = refl
page_at-pages_of marked (p ∷ ps) (m ∷ ms) zero d h = refl
page_at-pages_of marked (p ∷ ps) [] (suc i) d h = page_at-pages_of marked ps [] i d (omega (arith, h))
page_at-pages_of marked (p ∷ ps) (m ∷ ms) (suc i) d h = page_at-pages_of marked ps ms i d (omega (arith, h))

pub pages_of-empty : (marked : ℕ) (ps : List Unmarked) (ms : List Marks) → ps ≡ [] → pages_of marked ps ms ≡ []
unfolding pages_of
pages_of-empty marked ps ms e = ap (λ qs. pages_of marked qs ms) e

-- a page without a mark put behind the others
pub pages_of-push : (marked : ℕ) (ps : List Unmarked) (ms : List Marks) (p : Unmarked) → length ms ≤ length ps → pages_of marked (ps ++ p ∷ []) ms ≡ pages_of marked ps ms ++ with_marks p no_marks ∷ []
unfolding pages_of
pages_of-push marked [] [] p h = refl
pages_of-push marked [] (m ∷ ms) p h = absurd (omega (arith, h))
pages_of-push marked (x ∷ ps) [] p h = ap (λ l. with_marks x no_marks ∷ l) (pages_of-push marked ps [] p (omega arith))
pages_of-push marked (x ∷ ps) (m ∷ ms) p h = ap (λ l. with_marks x (kept_marks marked m) ∷ l) (pages_of-push marked ps ms p (omega (arith, h)))

-- ---- by places

same_pages : (xs ys : List PageState) → length xs ≡ length ys → ((i : ℕ) → i < length xs → page_at xs i ≡ page_at ys i) → xs ≡ ys
same_pages [] [] e h = refl
same_pages [] (y ∷ ys) e h = absurd (omega (arith, e))
same_pages (x ∷ xs) [] e h = absurd (omega (arith, e))
same_pages (x ∷ xs) (y ∷ ys) e h =
    let first : x ≡ y = h 0 (omega arith) in
    let rest : xs ≡ ys = same_pages xs ys (omega (arith, e)) (λ i l. h (suc i) (omega (arith, l))) in
    ap (λ p. p ∷ xs) first ∙ ap (λ l. y ∷ l) rest

set_by_place : (old new : List PageState) (i : ℕ) (x : PageState) → i < length old → length new ≡ length old → page_at new i ≡ x → ((j : ℕ) → j ≢ i → j < length old → page_at new j ≡ page_at old j)
    → new ≡ slice_set old i x
set_by_place old new i x low long is others =
    same_pages new (slice_set old i x) (long ∙ sym (length-set old i x)) (λ j l. elim (cases_eq j i) [
      | inl e ↦ ap (page_at new) e ∙ is ∙ sym (ap (page_at (slice_set old i x)) e ∙ get_or-set_same old i x no_page low)
      | inr d ↦ others j d (omega (arith, l, long)) ∙ sym (get_or-set_other old i j x no_page d)
    ])

-- stands for what is past the end of a list
abbrev pub no_unmarked : Unmarked
no_unmarked = record { bytes = []; rights = record { r = false; w = false; x = false } }

-- what stands at a place put there again
pub set_back : (ps : List Unmarked) (i : ℕ) (d : Unmarked) → i < length ps → slice_set ps i (slice_index_or ps i d) ≡ ps
set_back [] i d h = absurd (omega (arith, h))
set_back (p ∷ ps) zero d h = refl
set_back (p ∷ ps) (suc i) d h = ap (λ l. p ∷ l) (set_back ps i d (omega (arith, h)))

module _ (marked : ℕ) (ps : List Unmarked) (ms : List Marks) (m : List PageState) (is : pages_of marked ps ms ≡ m) where
  pub long : length m ≡ length ps
  long = ap length (sym is) ∙ length-pages_of marked ps ms

  pub below : (i : ℕ) → i < length m → i < length ps
  below i h = omega (arith, h, long)

  -- the page that is found at a place, with its marks
  pub stands_with : (i : ℕ) (p : Unmarked) → i < length m → p ≡ slice_index_or ps i p → page_at m i ≡ with_marks p (marks_at marked ms i)
  stands_with i p h here =
      ap (λ l. page_at l i) (sym is) ∙ page_at-pages_of marked ps ms i p (below i h) ∙ ap (λ x. with_marks x (marks_at marked ms i)) (sym here)

  -- the marks of the page at a place
  pub marked_with : (i : ℕ) → i < length m → marks_at marked ms i ≡ (page_at m i).marks
  marked_with i h = sym (ap (λ l. (page_at l i).marks) (sym is) ∙ ap (λ x. x.marks) (page_at-pages_of marked ps ms i no_unmarked (below i h)))

  -- the page at a place and its marks changed
  pub pages_of-changed : (qs : List Unmarked) (ns : List Marks) (i : ℕ) (q : Unmarked) (marks : List Bool) → i < length m → qs ≡ slice_set ps i q → IsChangedAt marked ms ns i marks
      → pages_of marked qs ns ≡ slice_set m i (with_marks q marks)
  pages_of-changed qs ns i q marks h set changed =
      let low = below i h in
      let size : length qs ≡ length ps = ap length set ∙ length-set ps i q in
      let here : slice_index_or qs i q ≡ q = ap (λ l. slice_index_or l i q) set ∙ get_or-set_same ps i q q low in
      set_by_place m (pages_of marked qs ns) i (with_marks q marks) h (length-pages_of marked qs ns ∙ size ∙ sym long)
      (page_at-pages_of marked qs ns i q (omega (arith, size, low)) ∙ ap (λ x. with_marks x (marks_at marked ns i)) here ∙ ap (with_marks q) changed.here)
      (λ j d l.
      let there = below j l in
      let other : slice_index_or qs j q ≡ slice_index_or ps j q = ap (λ k. slice_index_or k j q) set ∙ get_or-set_other ps i j q q d in
      page_at-pages_of marked qs ns j q (omega (arith, size, there)) ∙ ap (λ x. with_marks x (marks_at marked ns j)) other ∙ ap (with_marks (slice_index_or ps j q)) (changed.others j d)
      ∙ sym (ap (λ k. page_at k j) (sym is) ∙ page_at-pages_of marked ps ms j q there))

  -- a page found, changed and put back, with its marks
  pub pages_of-does : (qs : List Unmarked) (ns : List Marks) (i : ℕ) (p q : Unmarked) (marks : List Bool) (f : PageState → PageState) → i < length m → p ≡ slice_index_or ps i p → qs ≡ slice_set ps i q
      → IsChangedAt marked ms ns i marks → with_marks q marks ≡ f (with_marks p (marks_at marked ms i)) → pages_of marked qs ns ≡ slice_set m i (f (page_at m i))
  pages_of-does qs ns i p q marks f h here set changed does =
      pages_of-changed qs ns i q marks h set changed ∙ ap (slice_set m i) (does ∙ ap f (sym (stands_with i p h here)))

  -- a page put back as it was
  pub pages_of-same : (i : ℕ) (p q : Unmarked) → i < length m → p ≡ slice_index_or ps i p → q ≡ p → pages_of marked (slice_set ps i q) ms ≡ m
  pages_of-same i p q h here same = ap (λ (x : Unmarked). pages_of marked (slice_set ps i x) ms) (same ∙ here) ∙ ap (λ (l : List Unmarked). pages_of marked l ms) (set_back ps i p (below i h)) ∙ is

  -- the marks of a page alone changed
  pub pages_of-remarked : (ns : List Marks) (i : ℕ) (marks : List Bool) (f : PageState → PageState) → i < length m → IsChangedAt marked ms ns i marks
      → ((p : Unmarked) → with_marks p marks ≡ f (with_marks p (marks_at marked ms i))) → pages_of marked ps ns ≡ slice_set m i (f (page_at m i))
  pages_of-remarked ns i marks f h changed does =
      let p = slice_index_or ps i no_unmarked in
      let low = below i h in
      pages_of-does ps ns i p p marks f h (get_or_default ps i no_unmarked p low) (sym (set_back ps i no_unmarked low)) changed (does p)

  -- a page that stands elsewhere after a change, with its marks
  pub stays_with : (qs : List Unmarked) (ns : List Marks) (i j : ℕ) (d : Unmarked) → i < length qs → j < length m → slice_index_or qs i d ≡ slice_index_or ps j d → marks_at marked ns i ≡ marks_at marked ms j
      → page_at (pages_of marked qs ns) i ≡ page_at m j
  stays_with qs ns i j d low h page marks =
      page_at-pages_of marked qs ns i d low ∙ ap (λ x. with_marks x (marks_at marked ns i)) page ∙ ap (with_marks (slice_index_or ps j d)) marks
      ∙ sym (ap (λ k. page_at k j) (sym is) ∙ page_at-pages_of marked ps ms j d (below j h))
