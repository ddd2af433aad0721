-- The search for the lowest free place among the mapped pages in their order finds the lowest one that there is.
use Rattle.std.specs.FinMap as map
use Rattle.std.proofs.Common.{◌≡◌, ℕ, ◌+◌, ◌-◌, ◌<◌, ◌≤◌, ◌&&◌, Bool, true, false, T, cond, List, [], ◌∷◌, Option, Some, None, MatchOption, inl, inr, refl, sym, ap, subst, ◌∙◌, arith}
use Rattle.std.specs.Prelude.{map as map_list, nat_le, nat_lt}
use Rattle.std.specs.FinMap.Entries.{below_all}
use Rattle.std.specs.Ordering.{nat_cmp, is_lt}
use Rattle.std.proofs.lemmas.Bool.{cases_eq}
use Rattle.std.proofs.lemmas.Bool.Decides.{nat_tests}
use Rattle.std.proofs.lemmas.Option.{none-some}
use Rattle.kr_seen.proofs.pr_base.MapLemmas.{ties-same, ties-other}
use Rattle.kr_seen.specs.rv_mem.Layout.{Layout, IsFree, HasNoPlace, IsLowestPlace}
use Rattle.kr_seen.specs.rv_mem.declared.rights.Rights.{Rights}
use Rattle.kr_seen.specs.kr_model.MemoryRows.{lowest_place, place_among, place_here, places_begin, places_end}

-- ---- entries in their order

both_true : (a b : Bool) → T (a && b) → T a × T b
both_true true true h = (tt, tt)
both_true true false h = absurd h
both_true false b h = absurd h

lower : (a n : ℕ) → T (is_lt (nat_cmp a n)) → a < n
lower a n h = by (nat_lt a n) refl
  where
    by : (b : Bool) → nat_lt a n ≡ b → a < n
    by true is = grind (arith, nat_tests)
    by false is = let e : is_lt (nat_cmp a n) ≡ false = grind (arith, nat_tests) in absurd (subst T e h)

module _ {X : Type 0} where
  -- what is found is above all that the entries are above
  above : (a n : ℕ) (x : X) (es : List (ℕ × X)) → T (below_all nat_cmp a es) → map.find nat_cmp n es ≡ Some x → a < n
  above a n x [] h found = absurd (none-some x found)
  above a n x (e ∷ es) h found =
      elim (cases_eq n e.0) [
        | inl same ↦ let low = lower a e.0 (both_true _ _ h).0 in omega arith
        | inr other ↦ above a n x es (both_true _ _ h).1 (sym (ap (λ b. cond b (Some e.1) (map.find nat_cmp n es)) (ties-other n e.0 other)) ∙ found)
      ]

  none-below : (a n : ℕ) (es : List (ℕ × X)) → T (below_all nat_cmp a es) → n ≤ a → map.find nat_cmp n es ≡ None
  none-below a n es h low = by (map.find nat_cmp n es) refl
    where
      by : (o : Option X) → map.find nat_cmp n es ≡ o → o ≡ None
      by None is = refl
      by (Some x) is = absurd (let high = above a n x es h is in omega arith)

-- ---- the search

module _ (l : Layout) (n : ℕ) where
  -- from a number on, the pages that are mapped are those of the entries
  abbrev AreFrom : ℕ → List (ℕ × Rights) → Type 0
  AreFrom from es = (q : ℕ) → from ≤ q → map.get l q ≡ map.find nat_cmp q es

  -- what is found from a number on: no place, or the lowest
  abbrev pub Finds : ℕ → Option ℕ → Type 0
  Finds from o = MatchOption o (HasNoPlace l from places_end places_end n) (λ place. IsLowestPlace l from places_end n place)

  here : (from : ℕ) → IsFree l from n → Finds from (place_here from n)
  here from free = by (nat_le (from + n) places_end) refl
    where
      by : (b : Bool) → nat_le (from + n) places_end ≡ b → Finds from (cond b (Some from) None)
      by true is = record { low = omega arith; high = grind (arith, nat_tests); free = free; lowest = λ q low below. absurd (omega arith) }
      by false is = λ q low below ends none. let past : places_end < from + n = grind (arith, nat_tests) in absurd (omega arith)

  -- no place is before a mapped page, where none is before it from there on
  skips : (from p : ℕ) (x : Rights) (o : Option ℕ) → map.get l p ≡ Some x → from ≤ p → p < from + n → Finds (p + 1) o → Finds from o
  skips from p x o there low high finds = by o finds
    where
      -- a place up to the page would hold it
      held : (q : ℕ) → from ≤ q → q < p + 1 → IsFree l q n → ⊥
      held q least most free =
          let at : q + (p - q) ≡ p = omega arith in
          none-some x (sym (free (p - q) (omega arith)) ∙ ap (map.get l) at ∙ there)

      before : (q : ℕ) → from ≤ q → IsFree l q n → (p + 1 ≤ q → ⊥) → ⊥
      before q least free later = by (nat_lt q (p + 1)) refl
        where
          by : (b : Bool) → nat_lt q (p + 1) ≡ b → ⊥
          by true is = held q least (grind (arith, nat_tests)) free
          by false is = later (grind (arith, nat_tests))

      by : (o : Option ℕ) → Finds (p + 1) o → Finds from o
      by None none = λ q least below ends free. before q least free (λ later. none q later below ends free)
      by (Some place) found = record {
        low = let least = found.low in omega arith;
        high = found.high;
        free = found.free;
        lowest = λ q least below ends free. before q least free (λ later. found.lowest q later below ends free);
      }

  search : (from : ℕ) (es : List (ℕ × Rights)) → T (map.is_sorted nat_cmp es) → AreFrom from es → Finds from (place_among from n (map_list (λ e. e.0) es))
  search from [] sorted are = here from (λ k l. are (from + k) (omega arith))
  search from (e ∷ es) sorted are = by (nat_lt e.0 from) refl (nat_le (from + n) e.0) refl (search from es rest) (search (e.0 + 1) es rest)
    where
      rest : T (map.is_sorted nat_cmp es)
      rest = (both_true (below_all nat_cmp e.0 es) (map.is_sorted nat_cmp es) sorted).1

      over : T (below_all nat_cmp e.0 es)
      over = (both_true (below_all nat_cmp e.0 es) (map.is_sorted nat_cmp es) sorted).0

      -- of another number the entries behind tell
      behind : (q : ℕ) → (q ≡ e.0 → ⊥) → from ≤ q → map.get l q ≡ map.find nat_cmp q es
      behind q other least = are q least ∙ ap (λ b. cond b (Some e.1) (map.find nat_cmp q es)) (ties-other q e.0 other)

      by : (b : Bool) → nat_lt e.0 from ≡ b → (c : Bool) → nat_le (from + n) e.0 ≡ c
          → (AreFrom from es → Finds from (place_among from n (map_list (λ e. e.0) es)))
          → (AreFrom (e.0 + 1) es → Finds (e.0 + 1) (place_among (e.0 + 1) n (map_list (λ e. e.0) es)))
          → Finds from (cond b (place_among from n (map_list (λ e. e.0) es)) (cond c (place_here from n) (place_among (e.0 + 1) n (map_list (λ e. e.0) es))))
      by true is c fits same later =
          let low : e.0 < from = grind (arith, nat_tests) in
          same (λ q least. behind q (λ e. absurd (omega arith)) least)
      by false is true fits same later =
          let high : from + n ≤ e.0 = grind (arith, nat_tests) in
          here from (λ k l. behind (from + k) (λ e. absurd (omega arith)) (omega arith) ∙ none-below e.0 (from + k) es over (omega arith))
      by false is false fits same later =
          let least : from ≤ e.0 = grind (arith, nat_tests) in
          let most : e.0 < from + n = grind (arith, nat_tests) in
          skips from e.0 e.1 _ (are e.0 least ∙ ap (λ b. cond b (Some e.1) (map.find nat_cmp e.0 es)) (ties-same e.0)) least most
          (later (λ q low. behind q (λ e. absurd (omega arith)) (omega arith)))

  pub finds-lowest : Finds places_begin (lowest_place l n)
  finds-lowest = search places_begin (map.entries l) (map.entries_sorted l) (λ q low. map.get-entries l q)

  -- where there is no place below the end there is none
  refutes : HasNoPlace l places_begin places_end places_end n → (place : ℕ) → places_begin ≤ place → place + n ≤ places_end → IsFree l place n → ⊥
  refutes none place low high free = by (nat_lt 0 n) refl
    where
      by : (b : Bool) → nat_lt 0 n ≡ b → ⊥
      by true is = let some : 0 < n = grind (arith, nat_tests) in none place low (omega arith) high free
      by false is =
          let no_page : n ≡ 0 = grind (arith, nat_tests) in
          none places_begin (omega arith) (omega arith) (omega arith) (λ k below. absurd (omega arith))

  -- there is but one
  one-lowest : (a b : ℕ) → IsLowestPlace l places_begin places_end n a → IsLowestPlace l places_begin places_end n b → a ≡ b
  one-lowest a b x y = by (nat_lt a b) refl (nat_lt b a) refl
    where
      by : (p : Bool) → nat_lt a b ≡ p → (q : Bool) → nat_lt b a ≡ q → a ≡ b
      by true is q also = absurd (y.lowest a x.low (grind (arith, nat_tests)) x.high x.free)
      by false is true also = absurd (x.lowest b y.low (grind (arith, nat_tests)) y.high y.free)
      by false is false also = grind (arith, nat_tests)

  pub lowest-is : (place : ℕ) → IsLowestPlace l places_begin places_end n place → lowest_place l n ≡ Some place
  lowest-is place lowest = by (lowest_place l n) finds-lowest
    where
      by : (o : Option ℕ) → Finds places_begin o → o ≡ Some place
      by None none = absurd (refutes none place lowest.low lowest.high lowest.free)
      by (Some other) found = ap (λ p. Some p) (one-lowest other place found lowest)

  pub none-is : HasNoPlace l places_begin places_end places_end n → lowest_place l n ≡ None
  none-is none = by (lowest_place l n) finds-lowest
    where
      by : (o : Option ℕ) → Finds places_begin o → o ≡ None
      by None other = refl
      by (Some place) found = absurd (refutes none place found.low found.high found.free)

  -- and none for more pages than there are places
  pub none-so-long : places_end < places_begin + n → lowest_place l n ≡ None
  none-so-long long = none-is (λ q low below ends free. absurd (omega arith))
