-- Steps of the loops over several pages.
use Rattle.std.specs.FinMap as map
use Rattle.std.proofs.Common.{◌≡◌, ◌≢◌, ◌⊎◌, inl, inr, subst, ℕ, ◌+◌, ◌-◌, ◌*◌, ◌/◌, ◌≤◌, ◌<◌, zero, suc, Bool, true, false, ◌&&◌, ◌||◌, List, [], ◌∷◌, length, take, get_or, refl, sym, ap, ◌∙◌, arith, cond, Option, Some, None, is_some, nat_eq, nat_le, nat_lt, add-one, eq-eqb, max}
use Rattle.std.specs.Option.{option_map}
use Rattle.std.specs.Ordering.{nat_cmp}
use Rattle.std.specs.List.{list_any}
use Rattle.std.proofs.lemmas.Bool.{cases_eq, ne_eqb}
use Rattle.std.proofs.lemmas.Bool.Decides.{nat_tests}
use Rattle.std.proofs.lemmas.List.{take_more}
use Rattle.std.proofs.lemmas.List.Folds.{list_any-append}
use Rattle.rv_mem.specs.declared.rights.Rights.{Rights}
use Rattle.rv_mem.specs.Page.{PageState, fresh_page, page_with_rights}
use Rattle.rv_mem.specs.Pages.{Pages, with_page, mapped, unmapped, protected, marked, has_pages, HasNoPages, IsPlaced}
use Rattle.rv_table.proofs.pr_base.MapLemmas.{same_values, get-insert_same, get-insert_other, get-remove_same, get-remove_other, get-changed_same, get-changed_other}
use Rattle.rv_mem.proofs.PagesLemmas.{marked-add, marked_nowhere}
use Rattle.rv_mem.proofs.ChangeLemmas.{len-mapped_more, len-mapped-le, get-mapped_in, get-mapped_out, get-unmapped_in, get-unmapped_out}

-- ---- counting

pub mapped-zero : (m : Pages) (first : ℕ) (rights : Rights) → mapped m first 0 rights ≡ m
unfolding mapped
mapped-zero m first rights = refl

pub counted_more : (m : Pages) (first k absent : ℕ) (rights : Rights) → map.contains_key m (first + k) ≡ false → absent + map.len m ≡ map.len (mapped m first k rights) → absent + 1 + map.len m ≡ map.len (mapped m first (k + 1) rights)
counted_more m first k absent rights h e =
    let more : map.len (mapped m first (suc k) rights) ≡ map.len (mapped m first k rights) + 1 =
    len-mapped_more m first k rights ∙ ap (λ b. cond b (map.len (mapped m first k rights)) (map.len (mapped m first k rights) + 1)) h in
    let next : map.len (mapped m first (k + 1) rights) ≡ map.len (mapped m first (suc k) rights) = ap (λ j. map.len (mapped m first j rights)) (add-one k) in
    omega arith

pub counted_same : (m : Pages) (first k absent : ℕ) (rights : Rights) → map.contains_key m (first + k) ≡ true → absent + map.len m ≡ map.len (mapped m first k rights) → absent + map.len m ≡ map.len (mapped m first (k + 1) rights)
counted_same m first k absent rights h e =
    e
    ∙ sym (len-mapped_more m first k rights ∙ ap (λ b. cond b (map.len (mapped m first k rights)) (map.len (mapped m first k rights) + 1)) h)
    ∙ ap (λ j. map.len (mapped m first j rights)) (sym (add-one k))

pub counted_past : (m : Pages) (first k count absent : ℕ) (rights : Rights) → k < count → map.contains_key m (first + k) ≡ false → absent + map.len m ≡ map.len (mapped m first k rights) → absent + map.len m < map.len (mapped m first count rights)
counted_past m first k count absent rights l h e =
    let more = counted_more m first k absent rights h e in
    let rest : k + 1 + (count - (k + 1)) ≡ count = omega arith in
    let end : map.len (mapped m first (k + 1 + (count - (k + 1))) rights) ≡ map.len (mapped m first count rights) = ap (λ j. map.len (mapped m first j rights)) rest in
    omega (arith, more, end, len-mapped-le m first (k + 1) (count - (k + 1)) rights)

pub has_pages-zero : (m : Pages) (first : ℕ) → has_pages m first 0 ≡ true
unfolding has_pages
has_pages-zero m first = refl

pub has_pages-more : (m : Pages) (first k : ℕ) → has_pages m first (k + 1) ≡ (has_pages m first k && map.contains_key m (first + k))
unfolding has_pages
has_pages-more m first k = ap (has_pages m first) (add-one k)

-- a page that isn't there
pub has_pages_refused : (m : Pages) (first k n : ℕ) → k < n → map.contains_key m (first + k) ≡ false → has_pages m first n ≡ false
unfolding has_pages
has_pages_refused m first k zero l h = absurd (omega arith)
has_pages_refused m first k (suc n) l h =
    elim (cases_eq k n) [
      | inl e ↦ ap (λ j. has_pages m first n && map.contains_key m (first + j)) (sym e) ∙ ap (λ b. has_pages m first n && b) h ∙ and_false (has_pages m first n)
      | inr d ↦
          let below : k < n = omega arith in
          ap (λ b. b && map.contains_key m (first + n)) (has_pages_refused m first k n below h)
    ]
  where
    and_false : (b : Bool) → (b && false) ≡ false
    and_false true = refl
    and_false false = refl

-- ---- lists of numbers

or_false : (a : Bool) → (a || false) ≡ a
or_false true = refl
or_false false = refl

or_true : (a : Bool) → (a || true) ≡ true
or_true true = refl
or_true false = refl

none_from : (o : Option PageState) → is_some o ≡ false → o ≡ None
none_from None h = refl
none_from (Some p) h = absurd cc

pub any-take_more : (q i : ℕ) (xs : List ℕ) → i < length xs → list_any (nat_eq q) (take (i + 1) xs) ≡ (list_any (nat_eq q) (take i xs) || nat_eq q (get_or xs i 0))
any-take_more q i xs h =
    ap (list_any (nat_eq q)) (take_more xs i 0 h)
    ∙ list_any-append (nat_eq q) (take i xs) (get_or xs i 0 ∷ [])
    ∙ ap (λ b. list_any (nat_eq q) (take i xs) || b) (or_false (nat_eq q (get_or xs i 0)))

any_part : (q i : ℕ) (xs : List ℕ) → list_any (nat_eq q) xs ≡ false → list_any (nat_eq q) (take i xs) ≡ false
any_part q i [] h = ap (list_any (nat_eq q)) (take-nil i)
  where
    take-nil : (i : ℕ) → take {A = ℕ} i [] ≡ []
    take-nil zero = refl
    take-nil (suc i) = refl
any_part q zero (x ∷ xs) h = refl
any_part q (suc i) (x ∷ xs) h = ap (λ b. b || list_any (nat_eq q) (take i xs)) (first_false (nat_eq q x) h) ∙ any_part q i xs (rest_false (nat_eq q x) h)
  where
    first_false : (a : Bool) → (a || list_any (nat_eq q) xs) ≡ false → a ≡ false
    first_false true e = e
    first_false false e = refl

    rest_false : (a : Bool) → (a || list_any (nat_eq q) xs) ≡ false → list_any (nat_eq q) xs ≡ false
    rest_false true e = absurd cc
    rest_false false e = e

-- one page more taken away
pub gone_more : (m : Pages) (x q : ℕ) (a : Bool) → (a ≡ true → map.contains_key m q ≡ false) → (a || nat_eq q x) ≡ true → map.contains_key (map.remove m x) q ≡ false
gone_more m x q a so_far h =
    elim (cases_eq q x) [
      | inl e ↦ ap (map.contains_key (map.remove m x)) e ∙ ap is_some (get-remove_same m x)
      | inr d ↦ ap is_some (get-remove_other m x q d) ∙ so_far (sym (ap (λ b. a || b) (ne_eqb q x d) ∙ or_false a) ∙ h)
    ]

pub kept_more : (m old : Pages) (x q : ℕ) (a : Bool) → (a ≡ false → map.get m q ≡ map.get old q) → (a || nat_eq q x) ≡ false → map.get (map.remove m x) q ≡ map.get old q
kept_more m old x q a so_far h =
    elim (cases_eq q x) [
      | inl e ↦ let same : true ≡ false = sym (ap (λ b. a || b) (eq-eqb q x e) ∙ or_true a) ∙ h in absurd cc
      | inr d ↦ get-remove_other m x q d ∙ so_far (sym (ap (λ b. a || b) (ne_eqb q x d) ∙ or_false a) ∙ h)
    ]

-- one page more put in
pub added_more : (m : Pages) (x q : ℕ) (p : PageState) (a : Bool) → (a ≡ true → map.contains_key m q ≡ true) → (a || nat_eq q x) ≡ true → map.contains_key (map.insert m x p) q ≡ true
added_more m x q p a so_far h =
    elim (cases_eq q x) [
      | inl e ↦ ap (map.contains_key (map.insert m x p)) e ∙ ap is_some (get-insert_same m x p)
      | inr d ↦ ap is_some (get-insert_other m x p q d) ∙ so_far (sym (ap (λ b. a || b) (ne_eqb q x d) ∙ or_false a) ∙ h)
    ]

pub others_more : (m old : Pages) (x q : ℕ) (p : PageState) (a : Bool) → (a ≡ false → map.get m q ≡ map.get old q) → (a || nat_eq q x) ≡ false → map.get (map.insert m x p) q ≡ map.get old q
others_more m old x q p a so_far h =
    elim (cases_eq q x) [
      | inl e ↦ let same : true ≡ false = sym (ap (λ b. a || b) (eq-eqb q x e) ∙ or_true a) ∙ h in absurd cc
      | inr d ↦ get-insert_other m x p q d ∙ so_far (sym (ap (λ b. a || b) (ne_eqb q x d) ∙ or_false a) ∙ h)
    ]

-- pages that were put where there were none, taken away again
pub undone : (old m new : Pages) (xs : List ℕ) (i : ℕ)
    → ((q : ℕ) → list_any (nat_eq q) xs ≡ true → map.contains_key old q ≡ false)
    → ((q : ℕ) → list_any (nat_eq q) (take i xs) ≡ false → map.get m q ≡ map.get old q)
    → ((q : ℕ) → list_any (nat_eq q) xs ≡ true → map.contains_key new q ≡ false)
    → ((q : ℕ) → list_any (nat_eq q) xs ≡ false → map.get new q ≡ map.get m q)
    → new ≡ old
undone old m new xs i absent others gone kept =
    same_values new old (λ q. go q (list_any (nat_eq q) xs) refl)
  where
    go : (q : ℕ) (b : Bool) → list_any (nat_eq q) xs ≡ b → map.get new q ≡ map.get old q
    go q true e = none_from (map.get new q) (gone q e) ∙ sym (none_from (map.get old q) (absent q e))
    go q false e = kept q e ∙ others q (any_part q i xs e)

-- ---- mapping

-- the absent pages put in: each of the range is there, and all others are as they were
pub there_after : (old m : Pages) (xs : List ℕ) (first count : ℕ)
    → ((q : ℕ) → first ≤ q → q < first + count → list_any (nat_eq q) xs ≡ false → map.contains_key old q ≡ true)
    → ((q : ℕ) → list_any (nat_eq q) xs ≡ true → map.contains_key m q ≡ true)
    → ((q : ℕ) → list_any (nat_eq q) xs ≡ false → map.get m q ≡ map.get old q)
    → (j : ℕ) → j < count → map.contains_key m (first + j) ≡ true
there_after old m xs first count all added others j l =
    go (list_any (nat_eq (first + j)) xs) refl
  where
    go : (b : Bool) → list_any (nat_eq (first + j)) xs ≡ b → map.contains_key m (first + j) ≡ true
    go true e = added (first + j) e
    go false e = ap is_some (others (first + j) e) ∙ all (first + j) (omega arith) (omega arith) e

pub outside_after : (old m : Pages) (xs : List ℕ) (first count : ℕ)
    → ((q : ℕ) → list_any (nat_eq q) xs ≡ true → (map.contains_key old q ≡ false) × (first ≤ q) × (q < first + count))
    → ((q : ℕ) → list_any (nat_eq q) xs ≡ false → map.get m q ≡ map.get old q)
    → (q : ℕ) → ((j : ℕ) → j < count → q ≢ first + j) → map.get m q ≡ map.get old q
outside_after old m xs first count absent others q apart =
    go (list_any (nat_eq q) xs) refl
  where
    go : (b : Bool) → list_any (nat_eq q) xs ≡ b → map.get m q ≡ map.get old q
    go true e =
        let low : first ≤ q = (absent q e).1 in
        let high : q < first + count = (absent q e).2 in
        absurd (apart (q - first) (omega arith) (omega arith))
    go false e = others q e

always : (p : PageState) (o : Option PageState) → is_some o ≡ true → option_map (λ _. p) o ≡ Some p
always p None h = absurd cc
always p (Some x) h = refl

-- one page more made fresh
pub fresh_more : (m : Pages) (first k : ℕ) (p : PageState) → map.contains_key m (first + k) ≡ true
    → ((j : ℕ) → j < k → map.get m (first + j) ≡ Some p)
    → (j : ℕ) → j < k + 1 → map.get (with_page m (first + k) (λ _. p)) (first + j) ≡ Some p
fresh_more m first k p there so_far j l =
    elim (cases_eq j k) [
      | inl e ↦ ap (λ i. map.get (with_page m (first + k) (λ _. p)) (first + i)) e ∙ get-changed_same m (first + k) (λ _. p) ∙ always p (map.get m (first + k)) there
      | inr d ↦
          let other : first + j ≢ first + k = λ e. d (omega arith) in
          get-changed_other m (first + k) (λ _. p) (first + j) other ∙ so_far j (omega arith)
    ]

pub by_range : (P : ℕ → Type 0) (first count : ℕ) → ((k : ℕ) → k < count → P (first + k)) → ((q : ℕ) → ((k : ℕ) → k < count → q ≢ first + k) → P q) → (q : ℕ) → P q
by_range P first count inside outside q = go (nat_le first q && nat_lt q (first + count)) refl
  where
    go : (b : Bool) → (nat_le first q && nat_lt q (first + count)) ≡ b → P q
    go true e =
        let low : first ≤ q = grind (arith, nat_tests) in
        let high : q < first + count = grind (arith, nat_tests) in
        let is : first + (q - first) ≡ q = omega arith in
        subst P is (inside (q - first) (omega arith))
    go false e = outside q (λ k l is. let no : (nat_le first q && nat_lt q (first + count)) ≡ true = grind (arith, nat_tests) in absurd cc)

pub mapped_from : (old m : Pages) (first count : ℕ) (rights : Rights)
    → ((q : ℕ) → ((j : ℕ) → j < count → q ≢ first + j) → map.get m q ≡ map.get old q)
    → ((j : ℕ) → j < count → map.get m (first + j) ≡ Some (fresh_page rights))
    → m ≡ mapped old first count rights
mapped_from old m first count rights outside fresh =
    same_values m (mapped old first count rights) (by_range (λ q. map.get m q ≡ map.get (mapped old first count rights) q) first count
    (λ k l. fresh k l ∙ sym (get-mapped_in old first count rights k l))
    (λ q apart. outside q apart ∙ sym (get-mapped_out old first count rights q apart)))

pub unmapped_from : (old m : Pages) (first count : ℕ)
    → ((q : ℕ) → ((j : ℕ) → j < count → q ≢ first + j) → map.get m q ≡ map.get old q)
    → ((j : ℕ) → j < count → map.get m (first + j) ≡ None)
    → m ≡ unmapped old first count
unmapped_from old m first count outside gone =
    same_values m (unmapped old first count) (by_range (λ q. map.get m q ≡ map.get (unmapped old first count) q) first count
    (λ k l. gone k l ∙ sym (get-unmapped_in old first count k l))
    (λ q apart. outside q apart ∙ sym (get-unmapped_out old first count q apart)))

-- ---- rights and marks

pub protected-zero : (m : Pages) (first : ℕ) (rights : Rights) → protected m first 0 rights ≡ m
unfolding protected
protected-zero m first rights = refl

pub protected-more : (m : Pages) (first k : ℕ) (rights : Rights) → protected m first (k + 1) rights ≡ with_page (protected m first k rights) (first + k) (page_with_rights rights)
unfolding protected
protected-more m first k rights = ap (λ j. protected m first j rights) (add-one k)

pub marked-zero : (m : Pages) (at : ℕ) → marked m at 0 ≡ m
unfolding marked
marked-zero m at = refl

-- no page up to the end
pub marked_end : (m : Pages) (next to : ℕ) → next < to → HasNoPages m (next / 4096) ((to - 1) / 4096 + 1) → marked m next (to - next) ≡ m
marked_end m next to l none = marked_nowhere m next (to - next) (next / 4096) ((to - 1) / 4096 + 1) none (omega arith) (omega arith)

-- bytes up to the next page passed over, and some of it marked
pub marked_step : (m : Pages) (next to number here count : ℕ) → next ≤ here → here + count ≤ to → HasNoPages m (next / 4096) number → (here ≡ next) ⊎ (here ≡ number * 4096)
    → marked (marked m here count) (here + count) (to - (here + count)) ≡ marked m next (to - next)
marked_step m next to number here count low high none place =
    let first : to - next ≡ (here - next) + (count + (to - (here + count))) = omega arith in
    let from : next + (here - next) ≡ here = omega arith in
    sym (ap (marked m next) first
    ∙ marked-add m next (here - next) (count + (to - (here + count)))
    ∙ ap (λ a. marked (marked m next (here - next)) a (count + (to - (here + count)))) from
    ∙ ap (λ r. marked r here (count + (to - (here + count)))) (skipped place)
    ∙ marked-add m here count (to - (here + count)))
  where
    skipped : (here ≡ next) ⊎ (here ≡ number * 4096) → marked m next (here - next) ≡ m
    skipped (inl e) = let nothing : here - next ≡ 0 = omega arith in ap (marked m next) nothing ∙ marked-zero m next
    skipped (inr e) = marked_nowhere m next (here - next) (next / 4096) number none (omega arith) (omega arith)

pub max_is : (a b here : ℕ) → here ≡ max a b → (here ≡ a) ⊎ (here ≡ b)
max_is a b here e = go (nat_le a b) refl
  where
    go : (t : Bool) → nat_le a b ≡ t → (here ≡ a) ⊎ (here ≡ b)
    go true t = let le : a ≤ b = grind (arith, nat_tests) in inr (omega arith)
    go false t = let lt : b < a = grind (arith, nat_tests) in inl (omega arith)

-- ---- taking pages away

pub below_or_not : (P : Type 0) (a b : ℕ) → (a < b → P) → (b ≤ a → P) → P
below_or_not P a b low high = go (nat_lt a b) refl
  where
    go : (t : Bool) → nat_lt a b ≡ t → P
    go true t = low (grind (arith, nat_tests))
    go false t = high (grind (arith, nat_tests))

pub none_up_to : (m : Pages) (first from number : ℕ) → HasNoPages m first from → HasNoPages m from number → HasNoPages (map.remove m number) first (number + 1)
none_up_to m first from number gone between k low high =
    elim (cases_eq k number) [
      | inl e ↦ ap (map.get (map.remove m number)) e ∙ get-remove_same m number
      | inr d ↦ get-remove_other m number k d
          ∙ below_or_not (map.get m k ≡ None) k from (λ l. gone k low l) (λ h. between k h (omega arith))
    ]

pub others_up_to : (m old : Pages) (first from number : ℕ) → first ≤ number → from ≤ number → ((q : ℕ) → (q < first) ⊎ (from ≤ q) → map.get m q ≡ map.get old q)
    → (q : ℕ) → (q < first) ⊎ (number + 1 ≤ q) → map.get (map.remove m number) q ≡ map.get old q
others_up_to m old first from number low next so_far q (inl l) =
    let d : q ≢ number = omega arith in get-remove_other m number q d ∙ so_far q (inl l)
others_up_to m old first from number low next so_far q (inr h) =
    let d : q ≢ number = omega arith in
    let past : from ≤ q = omega arith in
    get-remove_other m number q d ∙ so_far q (inr past)

pub unmapped_at : (old m : Pages) (first count from : ℕ) → HasNoPages m first from → HasNoPages m from (first + count)
    → from ≤ first + count → ((q : ℕ) → (q < first) ⊎ (from ≤ q) → map.get m q ≡ map.get old q) → m ≡ unmapped old first count
unmapped_at old m first count from gone rest high others =
    unmapped_from old m first count outside
    (λ j l. below_or_not (map.get m (first + j) ≡ None) (first + j) from (λ h. gone (first + j) (omega arith) h) (λ h. rest (first + j) h (omega arith)))
  where
    outside : (q : ℕ) → ((j : ℕ) → j < count → q ≢ first + j) → map.get m q ≡ map.get old q
    outside q apart =
        below_or_not (map.get m q ≡ map.get old q) q first (λ l. others q (inl l))
        (λ low. below_or_not (map.get m q ≡ map.get old q) q (first + count)
        (λ l. absurd (apart (q - first) (omega arith) (omega arith)))
        (λ h. let past : from ≤ q = omega arith in others q (inr past)))

-- ---- all pages of a memory

none_placed : (m : Pages) (q : ℕ) → IsPlaced m → 67108863 ≤ q → map.get m q ≡ None
none_placed m q placed high = by (map.get m q) refl
  where
    by : (o : Option PageState) → map.get m q ≡ o → o ≡ None
    by None e = refl
    by (Some p) e = let low : q < 67108863 = placed q (ap is_some e) in absurd (omega (arith, low, high))

-- a range that has the numbers of all pages
pub unmapped_all : (m : Pages) (first count : ℕ) → IsPlaced m → first ≡ 0 → 67108863 ≤ count → map.empty ≡ unmapped m first count
unmapped_all m first count placed start all =
    unmapped_from m map.empty first count
    (λ q apart. map.get-empty nat_cmp q ∙ sym (none_placed m q placed (below_or_not (67108863 ≤ q) q count (λ l. absurd (apart q l (omega (arith, start)))) (λ h. omega (arith, h, all)))))
    (λ j l. map.get-empty nat_cmp (first + j))
