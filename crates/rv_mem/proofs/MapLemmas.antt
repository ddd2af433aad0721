-- The tree that stores the places of the pages, as a finite map.
use Rattle.std.specs.FinMap as map
use Rattle.std.proofs.Common.{◌≡◌, ◌≤◌, ◌<◌, ℕ, true, false, List, [], ◌∷◌, refl, sym, ap, ◌∙◌, Option, Some, None, arith, is_some}
use Rattle.std.specs.Ordering.{nat_cmp, is_gt}
use Rattle.std.specs.declared.cmp.Ordering.TheVariants.{Less}
use Rattle.std.specs.Option.{IsSome}
use Rattle.std.proofs.lemmas.Map.Keys.{le_from_not_gt}
use Rattle.std.proofs.lemmas.Bool.Decides.{nat_tests}
use Rattle.std.specs.BTreeMap.Range.{IsRangeOf}
use Rattle.std.specs.declared.ops.Bound.TheVariants.{Included, Excluded}
use Rattle.std.specs.BTreeMap.{BTreeMap, get_by}
use Rattle.rv_mem.specs.Page.{PageState}
use Rattle.rv_mem.specs.Pages.{Pages, HasNoPages}
use Rattle.rv_mem.specs.Places.{places_of, pages_at}
use Rattle.rv_table.proofs.pr_base.BTreeLemmas.{get-view}
use Rattle.rv_mem.proofs.PlaceLemmas.{absent, contains-pages_at}

-- a look-up in the tree is one in the map
pub get-place : (t : BTreeMap ℕ ℕ) (k : ℕ) (o : Option ℕ) → o ≡ get_by (nat_cmp k) t → map.get (places_of t.entries) k ≡ o
get-place t k o e = sym (e ∙ get-view t.entries (places_of t.entries) k refl)

not_above : (a b : ℕ) → a ≤ b → is_gt (nat_cmp a b) ≡ false
not_above a b h = grind (arith, nat_tests)

is_below : (a b : ℕ) → a < b → nat_cmp a b ≡ Less
is_below a b h = grind (arith, nat_tests)

from_below : (a b : ℕ) → nat_cmp a b ≡ Less → a < b
from_below a b h = grind (arith, nat_tests)

-- a range of the tree without an entry
pub no_pages_in : (t : BTreeMap ℕ ℕ) (pages : List PageState) (m : Pages) (from to : ℕ) → pages_at (places_of t.entries) pages ≡ m → IsRangeOf nat_cmp (Included from) (Excluded to) t [] → HasNoPages m from to
no_pages_in t pages m from to e h k low high = absent (places_of t.entries) pages m k e (get-place t k None (sym (h.5 refl k (not_above from k low, is_below k to high))))

none_before : (k q : ℕ) (o : Option ℕ) → q < k → (IsSome o → is_gt (nat_cmp k q) ≡ false) → o ≡ None
none_before k q None h first = refl
none_before k q (Some p) h first = let le : k ≤ q = le_from_not_gt k q (first refl) in absurd (omega arith)

-- the first entry of a range of the tree
pub first_page_in : (t : BTreeMap ℕ ℕ) (pages : List PageState) (m : Pages) (from to k i : ℕ) (rest : List (ℕ × ℕ)) → pages_at (places_of t.entries) pages ≡ m
    → IsRangeOf nat_cmp (Included from) (Excluded to) t ((k, i) ∷ rest) → (from ≤ k) × (k < to) × HasNoPages m from k
first_page_in t pages m from to k i rest e h = (
  le_from_not_gt from k h.1.0.0,
  from_below k to h.1.0.1,
  λ q low high. absent (places_of t.entries) pages m q e
      (get-place t q None (sym (none_before k q _ high (h.2 q (not_above from q low, is_below q to (let below : k < to = from_below k to h.1.0.1 in omega arith)))))),
)

some_there : (o : Option ℕ) (i : ℕ) → o ≡ Some i → is_some o ≡ true
some_there o i h = ap is_some h

-- that entry is there
pub first_page_there : (t : BTreeMap ℕ ℕ) (pages : List PageState) (m : Pages) (from to k i : ℕ) (rest : List (ℕ × ℕ)) → pages_at (places_of t.entries) pages ≡ m
    → IsRangeOf nat_cmp (Included from) (Excluded to) t ((k, i) ∷ rest) → map.contains_key m k ≡ true
first_page_there t pages m from to k i rest e h =
    ap (λ w. map.contains_key w k) (sym e) ∙ contains-pages_at (places_of t.entries) pages k ∙ some_there (map.get (places_of t.entries) k) i (get-place t k (Some i) (sym h.1.1))
