-- Pages by their places, after a change of one.
use Rattle.std.specs.FinMap as map
use Rattle.std.proofs.Common.{◌≡◌, ◌≢◌, inl, inr, subst, ℕ, ◌+◌, ◌-◌, ◌<◌, List, [], ◌∷◌, ◌++◌, length, refl, sym, ap, ◌∙◌, arith, Option, Some, None, is_some, true, false}
use Rattle.std.specs.Prelude.{slice_set, slice_index, slice_index_or, IsSome}
use Rattle.std.specs.Option.{option_map}
use Rattle.std.proofs.lemmas.Bool.{cases_eq}
use Rattle.std.proofs.lemmas.Option.{none-some}
use Rattle.std.proofs.lemmas.List.{length-append, length-set, get_or-set_same, get_or-set_other, get_or_push, get_or_append_left, get_or_default}
use Rattle.rv_table.proofs.pr_base.MapLemmas.{same_values, by_key, get-mapped, len-mapped, mapped-empty, get-insert_same, get-insert_other, get-remove_same, get-remove_other, get-changed_same, get-changed_other, changed-none}
use Rattle.rv_mem.specs.Page.{PageState}
use Rattle.rv_mem.specs.Pages.{Pages, with_page}
use Rattle.std.specs.Ordering.{nat_cmp}
use Rattle.rv_mem.proofs.TableLemmas.{below_or_not}
use Rattle.rv_mem.specs.Places.{Places, no_page, page_at, pages_at, AreNumbered, IsSettled}
use Rattle.rv_table.proofs.pr_base.TextLemmas.{some_is}

-- ---- what stands where

pub get-pages_at : (places : Places) (pages : List PageState) (k : ℕ) → map.get (pages_at places pages) k ≡ option_map (λ i. page_at pages i) (map.get places k)
unfolding pages_at
get-pages_at places pages k = get-mapped (λ _ i. page_at pages i) places k

pub len-pages_at : (places : Places) (pages : List PageState) → map.len (pages_at places pages) ≡ map.len places
unfolding pages_at
len-pages_at places pages = len-mapped (λ _ i. page_at pages i) places

pub pages_at-empty : (pages : List PageState) → pages_at map.empty pages ≡ map.empty
unfolding pages_at
pages_at-empty pages = mapped-empty (λ _ i. page_at pages i)

is_some-mapped : {A B : Type 0} (f : A → B) (o : Option A) → is_some (option_map f o) ≡ is_some o
is_some-mapped f None = refl
is_some-mapped f (Some x) = refl

pub contains-pages_at : (places : Places) (pages : List PageState) (k : ℕ) → map.contains_key (pages_at places pages) k ≡ map.contains_key places k
contains-pages_at places pages k = ap is_some (get-pages_at places pages k) ∙ is_some-mapped (λ i. page_at pages i) (map.get places k)

-- the page at a known place
pub found_at : (places : Places) (pages : List PageState) (k i : ℕ) → map.get places k ≡ Some i → map.get (pages_at places pages) k ≡ Some (page_at pages i)
found_at places pages k i e = get-pages_at places pages k ∙ ap (option_map (λ j. page_at pages j)) e

pub none_at : (places : Places) (pages : List PageState) (k : ℕ) → map.get places k ≡ None → map.get (pages_at places pages) k ≡ None
none_at places pages k e = get-pages_at places pages k ∙ ap (option_map (λ j. page_at pages j)) e

-- a number without a page has no place
pub no_place : (places : Places) (pages : List PageState) (m : Pages) (k : ℕ) → pages_at places pages ≡ m → map.contains_key m k ≡ false → map.get places k ≡ None
no_place places pages m k e absent = none_of (map.get places k) (sym (contains-pages_at places pages k) ∙ ap (λ w. map.contains_key w k) e ∙ absent)
  where
    none_of : (o : Option ℕ) → is_some o ≡ false → o ≡ None
    none_of None h = refl
    none_of (Some x) h = absurd cc

-- a number with a page has a place
pub has_place : (places : Places) (pages : List PageState) (m : Pages) (k : ℕ) (o : Option ℕ) → pages_at places pages ≡ m → o ≡ map.get places k → map.contains_key m k ≡ true → IsSome o
has_place places pages m k o e is there = ap is_some is ∙ sym (contains-pages_at places pages k) ∙ ap (λ w. map.contains_key w k) e ∙ there

-- a place in a list of pages as long as that of the numbers
pub inside : (places : Places) (numbers : List ℕ) (pages : List PageState) (k i : ℕ) → AreNumbered places numbers → length pages ≡ length numbers → map.get places k ≡ Some i → i < length pages
inside places numbers pages k i placed paired here = subst (λ n. i < n) (sym paired) (placed.held k i here).0

-- the page that stands at the place of a number, in a map that is the same
pub stands : (places : Places) (pages : List PageState) (m : Pages) (k i : ℕ) (p : PageState) → pages_at places pages ≡ m → map.get places k ≡ Some i → i < length pages → p ≡ slice_index_or pages i p → map.get m k ≡ Some p
stands places pages m k i p e here low is =
    ap (λ w. map.get w k) (sym e) ∙ found_at places pages k i here ∙ ap Some (get_or_default pages i no_page p low ∙ sym is)

pub absent : (places : Places) (pages : List PageState) (m : Pages) (k : ℕ) → pages_at places pages ≡ m → map.get places k ≡ None → map.get m k ≡ None
absent places pages m k e here = ap (λ w. map.get w k) (sym e) ∙ none_at places pages k here

-- no two numbers have one place
apart_places : (places : Places) (numbers : List ℕ) (k q i j : ℕ) → AreNumbered places numbers → map.get places k ≡ Some i → map.get places q ≡ Some j → q ≢ k → j ≢ i
apart_places places numbers k q i j placed e f other same =
    other (sym (placed.held q j f).1 ∙ ap (slice_index numbers) same ∙ (placed.held k i e).1)

pub AreNumbered-empty : AreNumbered map.empty []
AreNumbered-empty = record {
  held = λ k i e. absurd (none-some i (sym (map.get-empty nat_cmp k) ∙ e));
  known = λ i l. absurd (omega (arith, l));
}

-- ---- the page at a place changed

module _ (places : Places) (numbers : List ℕ) (pages : List PageState) (k i : ℕ) (placed : AreNumbered places numbers) (paired : length pages ≡ length numbers) (here : map.get places k ≡ Some i) where
  others_same : (p : PageState) (q : ℕ) (o : Option ℕ) → q ≢ k → map.get places q ≡ o → option_map (λ j. page_at (slice_set pages i p) j) o ≡ option_map (λ j. page_at pages j) o
  others_same p q None d e = refl
  others_same p q (Some j) d e = ap Some (get_or-set_other pages i j p no_page (apart_places places numbers k q i j placed here e d))

  pub pages_at-set : (m : Pages) (p w : PageState) (f : PageState → PageState) → pages_at places pages ≡ m → p ≡ slice_index_or pages i p → w ≡ f p → pages_at places (slice_set pages i w) ≡ with_page m k f
  pages_at-set m p w f e is does =
      let low : i < length pages = inside places numbers pages k i placed paired here in
      same_values _ _ (by_key (λ q. map.get (pages_at places (slice_set pages i w)) q ≡ map.get (with_page m k f) q) k
      (found_at places (slice_set pages i w) k i here ∙ ap Some (get_or-set_same pages i w no_page low) ∙ ap Some does
      ∙ sym (get-changed_same m k f ∙ ap (option_map f) (stands places pages m k i p e here low is)))
      (λ q d. get-pages_at places (slice_set pages i w) q ∙ others_same w q (map.get places q) d refl ∙ sym (get-pages_at places pages q)
      ∙ ap (λ n. map.get n q) e ∙ sym (get-changed_other m k f q d)))

  -- the page that stands at the place
  pub there_at : (m : Pages) → pages_at places pages ≡ m → map.get m k ≡ Some (page_at pages i)
  there_at m e = ap (λ w. map.get w k) (sym e) ∙ found_at places pages k i here

  pub pages_at-put : (new : List PageState) (m : Pages) (f : PageState → PageState) → pages_at places pages ≡ m → new ≡ slice_set pages i (f (page_at pages i)) → pages_at places new ≡ with_page m k f
  pages_at-put new m f e set =
      let low : i < length pages = inside places numbers pages k i placed paired here in
      ap (pages_at places) set ∙ pages_at-set m (page_at pages i) (f (page_at pages i)) f e (get_or_default pages i no_page (page_at pages i) low) refl

  pub paired-put : (new : List PageState) (w : PageState) → new ≡ slice_set pages i w → length new ≡ length numbers
  paired-put new w set = ap length set ∙ length-set pages i w ∙ paired

-- no page changed
pub pages_at-unset : (places : Places) (pages : List PageState) (m : Pages) (k : ℕ) (f : PageState → PageState) → pages_at places pages ≡ m → map.get places k ≡ None → m ≡ with_page m k f
pages_at-unset places pages m k f e none = sym (changed-none m k f (absent places pages m k e none))

-- a page put over one that is there
pub put_over : (m : Pages) (k : ℕ) (p : PageState) → map.contains_key m k ≡ true → with_page m k (λ _. p) ≡ map.insert m k p
put_over m k p there =
    same_values _ _ (by_key (λ q. map.get (with_page m k (λ _. p)) q ≡ map.get (map.insert m k p) q) k
    (get-changed_same m k (λ _. p) ∙ over (map.get m k) there ∙ sym (get-insert_same m k p))
    (λ q d. get-changed_other m k (λ _. p) q d ∙ sym (get-insert_other m k p q d)))
  where
    over : (o : Option PageState) → is_some o ≡ true → option_map (λ _. p) o ≡ Some p
    over None h = absurd cc
    over (Some x) h = refl

-- ---- a page put behind the others

module _ (places : Places) (numbers : List ℕ) (pages : List PageState) (k : ℕ) (p : PageState) (placed : AreNumbered places numbers) (paired : length pages ≡ length numbers) (free : map.get places k ≡ None) where
  abbrev places' : Places
  places' = map.insert places k (length pages)

  abbrev numbers' : List ℕ
  numbers' = numbers ++ k ∷ []

  last_number : slice_index numbers' (length pages) ≡ k
  last_number = get_or_push numbers k 0 (length pages) (sym paired)

  old_number : (j : ℕ) → j < length numbers → slice_index numbers' j ≡ slice_index numbers j
  old_number j l = get_or_append_left numbers (k ∷ []) 0 j l

  one_more : length numbers' ≡ length numbers + 1
  one_more = length-append numbers (k ∷ [])

  pub AreNumbered-push : AreNumbered places' numbers'
  AreNumbered-push = record {
    held = by_key (λ q. (j : ℕ) → map.get places' q ≡ Some j → (j < length numbers') × (slice_index numbers' j ≡ q)) k
        (λ j e.
        let is : length pages ≡ j = some_is _ _ (sym (get-insert_same places k (length pages)) ∙ e) in
        (omega (arith, one_more, is, paired), ap (slice_index numbers') (sym is) ∙ last_number))
        (λ q d j e.
        let was = placed.held q j (sym (get-insert_other places k (length pages) q d) ∙ e) in
        (omega (arith, one_more, was.0), old_number j was.0 ∙ was.1));
    known = λ j l. elim (cases_eq j (length pages)) [
      | inl same ↦ ap (λ n. map.get places' (slice_index numbers' n)) same ∙ ap (map.get places') last_number ∙ get-insert_same places k (length pages) ∙ ap Some (sym same)
      | inr d ↦
          let below : j < length numbers = omega (arith, one_more, l, paired, d) in
          let other : slice_index numbers j ≢ k = λ e. none-some j (sym free ∙ ap (map.get places) (sym e) ∙ placed.known j below) in
          ap (map.get places') (old_number j below) ∙ get-insert_other places k (length pages) (slice_index numbers j) other ∙ placed.known j below
    ];
  }

  pub paired-push : length (pages ++ p ∷ []) ≡ length numbers'
  paired-push = length-append pages (p ∷ []) ∙ ap (λ n. n + 1) paired ∙ sym one_more

  old_pages : (q : ℕ) (o : Option ℕ) → map.get places q ≡ o → option_map (λ j. page_at (pages ++ p ∷ []) j) o ≡ option_map (λ j. page_at pages j) o
  old_pages q None e = refl
  old_pages q (Some j) e = ap Some (get_or_append_left pages (p ∷ []) no_page j (inside places numbers pages q j placed paired e))

  pub pages_at-push : pages_at places' (pages ++ p ∷ []) ≡ map.insert (pages_at places pages) k p
  pages_at-push =
      same_values _ _ (by_key (λ q. map.get (pages_at places' (pages ++ p ∷ [])) q ≡ map.get (map.insert (pages_at places pages) k p) q) k
      (found_at places' (pages ++ p ∷ []) k (length pages) (get-insert_same places k (length pages)) ∙ ap Some (get_or_push pages p no_page (length pages) refl) ∙ sym (get-insert_same (pages_at places pages) k p))
      (λ q d. get-pages_at places' (pages ++ p ∷ []) q ∙ ap (option_map (λ j. page_at (pages ++ p ∷ []) j)) (get-insert_other places k (length pages) q d) ∙ old_pages q (map.get places q) refl
      ∙ sym (get-pages_at places pages q) ∙ sym (get-insert_other (pages_at places pages) k p q d)))

-- ---- a page taken away, whose place the last one takes

-- what a list is after one was taken away whose place the last one takes
pub record IsLeft {A : Type 0} (d : A) (was left : List A) (i : ℕ) : Type 0 where
  pub size : length left + 1 ≡ length was
  pub same : (j : ℕ) → j ≢ i → j < length left → slice_index_or left j d ≡ slice_index_or was j d
  pub moved : i < length left → slice_index_or left i d ≡ slice_index_or was (length left) d

-- as the vectors' lengths have it
pub left_by_index : {A : Type 0} (d : A) (was left : List A) (i n m : ℕ) → n ≡ length was → m ≡ length left → m + 1 ≡ n → (i + 1 < n → slice_index_or left i d ≡ slice_index_or was (n - 1) d)
    → ((j : ℕ) → j ≢ i → j + 1 < n → slice_index_or left j d ≡ slice_index_or was j d) → IsLeft d was left i
left_by_index d was left i n m before after size moved same =
    let last : n - 1 ≡ length left = omega (arith, before, after, size) in
    record {
      size = omega (arith, before, after, size);
      same = λ j apart l. same j apart (omega (arith, before, after, size, l));
      moved = λ l. moved (omega (arith, before, after, size, l)) ∙ ap (λ k. slice_index_or was k d) last;
    }

module _ (places middle : Places) (numbers left : List ℕ) (k i : ℕ) (placed : AreNumbered places numbers) (here : map.get places k ≡ Some i) (is : middle ≡ map.remove places k) (ns : IsLeft 0 numbers left i) where
  -- the number that took the place is another one, and was at the last
  took : i < length left → map.get places (slice_index left i) ≡ Some (length left)
  took l = ap (map.get places) (ns.moved l) ∙ placed.known (length left) (omega (arith, ns.size))

  apart_from : i < length left → slice_index left i ≢ k
  apart_from l e = let same : i ≡ length left = some_is _ _ (sym here ∙ ap (map.get places) (sym e) ∙ took l) in omega (arith, same, l)

  stays_there : i < length left → map.get middle (slice_index left i) ≡ Some (length left)
  stays_there l = ap (λ m. map.get m (slice_index left i)) is ∙ get-remove_other places k (slice_index left i) (apart_from l) ∙ took l

  pub still_there : i < length left → IsSome (map.get middle (slice_index left i))
  still_there l = subst IsSome (sym (stays_there l)) refl

module _ (places middle after : Places) (numbers left : List ℕ) (pages rest : List PageState) (k i : ℕ) (placed : AreNumbered places numbers) (paired : length pages ≡ length numbers) (here : map.get places k ≡ Some i)
    (is : middle ≡ map.remove places k) (ns : IsLeft 0 numbers left i) (ps : IsLeft no_page pages rest i) (settled : IsSettled middle after left i) where
  gone : map.get after k ≡ None
  gone = settled.others k (λ l e. apart_from places middle numbers left k i placed here is ns l (sym e)) ∙ ap (λ m. map.get m k) is ∙ get-remove_same places k

  told : i < length left → map.get after (slice_index left i) ≡ Some i
  told l = settled.told l

  others : (q : ℕ) → q ≢ k → (i < length left → q ≢ slice_index left i) → map.get after q ≡ map.get places q
  others q d apart = settled.others q apart ∙ ap (λ m. map.get m q) is ∙ get-remove_other places k q d

  pub paired-removed : length rest ≡ length left
  paired-removed = omega (arith, ns.size, ps.size, paired)

  -- a number that stays has a place that isn't the freed one, nor the last one where that moved
  stays : (q j : ℕ) → q ≢ k → (i < length left → q ≢ slice_index left i) → map.get places q ≡ Some j → (j ≢ i) × (j < length left)
  stays q j d apart e =
      let not_here : j ≢ i = apart_places places numbers k q i j placed here e d in
      let low : j < length numbers = (placed.held q j e).0 in
      let first : i < length numbers = (placed.held k i here).0 in
      let not_last : j ≢ length left = λ is.
      apart (omega (arith, ns.size, first, is, not_here)) (sym (placed.held q j e).1 ∙ ap (slice_index numbers) is ∙ sym (ns.moved (omega (arith, ns.size, first, is, not_here)))) in
      (not_here, omega (arith, ns.size, low, not_last))

  by_number : (P : ℕ → Type 0) → P k → (i < length left → P (slice_index left i)) → ((q : ℕ) → q ≢ k → (i < length left → q ≢ slice_index left i) → P q) → (q : ℕ) → P q
  by_number P at_k at_moved other = by_key P k at_k (λ q d.
      below_or_not (P q) i (length left)
      (λ l. elim (cases_eq q (slice_index left i)) [ inl e ↦ subst P (sym e) (at_moved l) | inr n ↦ other q d (λ _. n) ])
      (λ h. other q d (λ l. absurd (omega (arith, h, l)))))

  pub AreNumbered-removed : AreNumbered after left
  AreNumbered-removed = record {
    held = by_number (λ q. (j : ℕ) → map.get after q ≡ Some j → (j < length left) × (slice_index left j ≡ q))
        (λ j e. absurd (none-some j (sym gone ∙ e)))
        (λ l j e. let is : i ≡ j = some_is _ _ (sym (told l) ∙ e) in (subst (λ n. n < length left) is l, ap (slice_index left) (sym is)))
        (λ q d apart j e.
        let was : map.get places q ≡ Some j = sym (others q d apart) ∙ e in
        let at = stays q j d apart was in
        (at.1, ns.same j at.0 at.1 ∙ (placed.held q j was).1));
    known = λ j l. elim (cases_eq j i) [
      | inl e ↦ ap (λ n. map.get after (slice_index left n)) e ∙ told (subst (λ n. n < length left) e l) ∙ ap Some (sym e)
      | inr d ↦
          let was : map.get places (slice_index numbers j) ≡ Some j = placed.known j (omega (arith, ns.size, l)) in
          let not_k : slice_index numbers j ≢ k = λ e. d (some_is _ _ (sym was ∙ ap (map.get places) e ∙ here)) in
          let not_moved : i < length left → slice_index numbers j ≢ slice_index left i = λ low e.
          let last : map.get places (slice_index numbers (length left)) ≡ Some (length left) = placed.known (length left) (omega (arith, ns.size)) in
          let is : j ≡ length left = some_is _ _ (sym was ∙ ap (map.get places) (e ∙ ns.moved low) ∙ last) in
          absurd (omega (arith, is, l)) in
          ap (map.get after) (ns.same j d l) ∙ others (slice_index numbers j) not_k not_moved ∙ was
    ];
  }

  left_pages : (q : ℕ) (o : Option ℕ) → q ≢ k → (i < length left → q ≢ slice_index left i) → map.get places q ≡ o → option_map (λ j. page_at rest j) o ≡ option_map (λ j. page_at pages j) o
  left_pages q None d apart e = refl
  left_pages q (Some j) d apart e = let at = stays q j d apart e in ap Some (ps.same j at.0 (subst (λ n. j < n) (sym paired-removed) at.1))

  pub pages_at-removed : pages_at after rest ≡ map.remove (pages_at places pages) k
  pages_at-removed =
      same_values _ _ (by_number (λ q. map.get (pages_at after rest) q ≡ map.get (map.remove (pages_at places pages) k) q)
      (none_at after rest k gone ∙ sym (get-remove_same (pages_at places pages) k))
      (λ l.
      let number = slice_index left i in
      let last : map.get places number ≡ Some (length left) = ap (map.get places) (ns.moved l) ∙ placed.known (length left) (omega (arith, ns.size)) in
      let other : number ≢ k = λ e. let is : i ≡ length left = some_is _ _ (sym here ∙ ap (map.get places) (sym e) ∙ last) in absurd (omega (arith, is, l)) in
      found_at after rest number i (told l) ∙ ap Some (ps.moved (subst (λ n. i < n) (sym paired-removed) l)) ∙ ap (λ n. Some (page_at pages n)) paired-removed
      ∙ sym (get-remove_other (pages_at places pages) k number other ∙ found_at places pages number (length left) last))
      (λ q d apart. get-pages_at after rest q ∙ ap (option_map (λ j. page_at rest j)) (others q d apart) ∙ left_pages q (map.get places q) d apart refl
      ∙ sym (get-pages_at places pages q) ∙ sym (get-remove_other (pages_at places pages) k q d)))
