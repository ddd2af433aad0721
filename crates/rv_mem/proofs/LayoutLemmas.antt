-- Changes of pages, on their layout, and what is asked of it.
use Rattle.std.specs.FinMap as map
use Rattle.std.proofs.Common.{◌≡◌, ℕ, zero, suc, ◌+◌, ◌-◌, ◌/◌, ◌%◌, ◌≤◌, ◌<◌, Bool, true, false, ◌||◌, List, [], ◌∷◌, refl, sym, ap, ◌∙◌, arith, Option, Some, None, is_some}
use Rattle.std.specs.Option.{option_map, IfSome, IfNone}
use Rattle.rv_table.specs.pr_base.Maps.{changed}
use Rattle.rv_table.proofs.pr_base.MapLemmas.{same_values, by_key, get-mapped, len-mapped, mapped-insert, mapped-remove, get-changed_same, get-changed_other}
use Rattle.rv_mem.specs.declared.rights.Rights.{Rights}
use Rattle.rv_mem.specs.Page.{PageState, page_written, page_marked, page_with_rights}
use Rattle.rv_mem.specs.Pages.{Pages, with_page, written, marked, mapped, unmapped, protected, HasNoPages}
use Rattle.rv_mem.specs.Actions.{AreEqualUnmarked, rights_of}
use Rattle.rv_mem.proofs.TableLemmas.{below_or_not}
use Rattle.rv_mem.specs.Layout.{layout_of, laid, has_page, IsFree, HasNoPlace, LayoutsFollow}

get-layout : (m : Pages) (k : ℕ) → map.get (layout_of m) k ≡ rights_of m k
get-layout m k = get-mapped (λ n p. p.rights) m k

layout-with_page : (m : Pages) (k : ℕ) (f : PageState → PageState) → ((p : PageState) → (f p).rights ≡ p.rights) → layout_of (with_page m k f) ≡ layout_of m
layout-with_page m k f same =
    same_values _ _ (by_key (λ q. map.get (layout_of (with_page m k f)) q ≡ map.get (layout_of m) q) k
    (get-layout (with_page m k f) k ∙ ap (option_map (λ p. p.rights)) (get-changed_same m k f) ∙ kept (map.get m k) ∙ sym (get-layout m k))
    (λ q d. get-layout (with_page m k f) q ∙ ap (option_map (λ p. p.rights)) (get-changed_other m k f q d) ∙ sym (get-layout m q)))
  where
    kept : (o : Option PageState) → option_map (λ (p : PageState). p.rights) (option_map f o) ≡ option_map (λ (p : PageState). p.rights) o
    kept None = refl
    kept (Some p) = ap Some (same p)

layout-one_protected : (m : Pages) (k : ℕ) (r : Rights) → layout_of (with_page m k (page_with_rights r)) ≡ changed (layout_of m) k (λ _. r)
layout-one_protected m k r =
    same_values _ _ (by_key (λ q. map.get (layout_of (with_page m k (page_with_rights r))) q ≡ map.get (changed (layout_of m) k (λ _. r)) q) k
    (get-layout (with_page m k (page_with_rights r)) k ∙ ap (option_map (λ p. p.rights)) (get-changed_same m k (page_with_rights r)) ∙ given (map.get m k)
    ∙ sym (ap (option_map (λ _. r)) (get-layout m k)) ∙ sym (get-changed_same (layout_of m) k (λ _. r)))
    (λ q d. get-layout (with_page m k (page_with_rights r)) q ∙ ap (option_map (λ p. p.rights)) (get-changed_other m k (page_with_rights r) q d)
    ∙ sym (get-layout m q) ∙ sym (get-changed_other (layout_of m) k (λ _. r) q d)))
  where
    given : (o : Option PageState) → option_map (λ (p : PageState). p.rights) (option_map (page_with_rights r) o) ≡ option_map (λ _. r) (option_map (λ (p : PageState). p.rights) o)
    given None = refl
    given (Some p) = refl

layout-written : (bs : List ℕ) (m : Pages) (at : ℕ) → layout_of (written m at bs) ≡ layout_of m
unfolding written
layout-written [] m at = refl
layout-written (b ∷ bs) m at =
    layout-written bs (with_page m (at / 4096) (page_written (at % 4096) (b ∷ []))) (at + 1)
    ∙ layout-with_page m (at / 4096) (page_written (at % 4096) (b ∷ [])) (λ p. refl)

layout-marked : (m : Pages) (at n : ℕ) → layout_of (marked m at n) ≡ layout_of m
unfolding marked
layout-marked m at zero = refl
layout-marked m at (suc n) =
    layout-marked (with_page m (at / 4096) (page_marked (at % 4096) 1)) (at + 1) n
    ∙ layout-with_page m (at / 4096) (page_marked (at % 4096) 1) (λ p. refl)

layout-mapped : (m : Pages) (first n : ℕ) (r : Rights) → layout_of (mapped m first n r) ≡ laid (layout_of m) first n (λ l k. map.insert l k r)
unfolding mapped laid
layout-mapped m first zero r = refl
layout-mapped m first (suc n) r = mapped-insert (λ n p. p.rights) (mapped m first n r) (first + n) _ ∙ ap (λ l. map.insert l (first + n) r) (layout-mapped m first n r)

layout-unmapped : (m : Pages) (first n : ℕ) → layout_of (unmapped m first n) ≡ laid (layout_of m) first n (λ l k. map.remove l k)
unfolding unmapped laid
layout-unmapped m first zero = refl
layout-unmapped m first (suc n) = mapped-remove (λ n p. p.rights) (unmapped m first n) (first + n) ∙ ap (λ l. map.remove l (first + n)) (layout-unmapped m first n)

layout-protected : (m : Pages) (first n : ℕ) (r : Rights) → layout_of (protected m first n r) ≡ laid (layout_of m) first n (λ l k. changed l k (λ _. r))
unfolding protected laid
layout-protected m first zero r = refl
layout-protected m first (suc n) r = layout-one_protected (protected m first n r) (first + n) r ∙ ap (λ l. changed l (first + n) (λ _. r)) (layout-protected m first n r)

pub layouts_follow : LayoutsFollow
layouts_follow = record {
  rights = get-layout;
  count = len-mapped (λ n p. p.rights);
  maps = layout-mapped;
  unmaps = layout-unmapped;
  protects = layout-protected;
  writes = λ m at bytes. layout-written bytes m at;
  marks = layout-marked;
}

pub layout_alike : (m w : Pages) → AreEqualUnmarked m w → layout_of m ≡ layout_of w
layout_alike m w same = same_values _ _ (λ k. get-layout m k ∙ same.rights k ∙ sym (get-layout w k))

-- ---- which of its pages are there

none_mapped : (o : Option PageState) → o ≡ None → option_map (λ (p : PageState). p.rights) o ≡ None
none_mapped None h = refl
none_mapped (Some p) h = absurd cc

-- where no page is there is none of the layout
pub layout_free : (m : Pages) (k : ℕ) → map.get m k ≡ None → map.get (layout_of m) k ≡ None
layout_free m k h = get-layout m k ∙ none_mapped (map.get m k) h

some_mapped : (o : Option PageState) → is_some (option_map (λ (p : PageState). p.rights) o) ≡ is_some o
some_mapped None = refl
some_mapped (Some p) = refl

pub contains_layout : (m : Pages) (k : ℕ) → map.contains_key (layout_of m) k ≡ map.contains_key m k
contains_layout m k = ap is_some (get-layout m k) ∙ some_mapped (map.get m k)

or_true : (a : Bool) → (a || true) ≡ true
or_true true = refl
or_true false = refl

-- none of the pages of a range
pub has_page-none : (m : Pages) (first n to : ℕ) → first + n ≤ to → HasNoPages m first to → has_page (layout_of m) first n ≡ false
unfolding has_page
has_page-none m first zero to h none = refl
has_page-none m first (suc n) to h none =
    ap (λ b. b || has_page (layout_of m) (first + 1) n) (ap is_some (layout_free m first (none first (omega arith) (omega arith))))
    ∙ has_page-none m (first + 1) n to (omega arith) (λ k low high. none k (omega arith) high)

-- one of them
pub has_page-some : (m : Pages) (first n k : ℕ) → k < n → map.contains_key m (first + k) ≡ true → has_page (layout_of m) first n ≡ true
unfolding has_page
has_page-some m first zero k l h = absurd (omega arith)
has_page-some m first (suc n) zero l h =
    let here : first + 0 ≡ first = omega arith in
    ap (λ b. b || has_page (layout_of m) (first + 1) n) (contains_layout m first ∙ ap (map.contains_key m) (sym here) ∙ h)
has_page-some m first (suc n) (suc k) l h =
    let there : first + suc k ≡ first + 1 + k = omega arith in
    ap (λ b. map.contains_key (layout_of m) first || b) (has_page-some m (first + 1) n k (omega arith) (ap (map.contains_key m) (sym there) ∙ h))
    ∙ or_true (map.contains_key (layout_of m) first)

-- by the first page of a range, if there is one
pub any_by_next : (m : Pages) (first n : ℕ) (o : Option ℕ) → IfNone o (HasNoPages m first (first + n)) → IfSome o (λ k. (first ≤ k) × (k < first + n) × HasNoPages m first k)
    → IfSome o (λ k. map.contains_key m k ≡ true) → is_some o ≡ has_page (layout_of m) first n
any_by_next m first n None none some there = sym (has_page-none m first n (first + n) (omega arith) none)
any_by_next m first n (Some k) none some there =
    let is : first + (k - first) ≡ k = omega (arith, some.0) in
    sym (has_page-some m first n (k - first) (omega (arith, some.0, some.1)) (ap (map.contains_key m) is ∙ there))

-- ---- the lowest free place

-- a range without a page is free
pub free_from : (m : Pages) (place to n : ℕ) → place + n ≤ to → HasNoPages m place to → IsFree (layout_of m) place n
free_from m place to n h none k l = layout_free m (place + k) (none (place + k) (omega arith) (omega arith))

none_there : (o : Option Rights) → is_some o ≡ true → o ≡ None → ⊥
none_there None there h = absurd cc
none_there (Some r) there h = absurd cc

-- no place up to a page, where none was free before and the rest is too short
pub no_place_past : (m : Pages) (from place number end n : ℕ) → HasNoPlace (layout_of m) from place end n → map.contains_key m number ≡ true → number < place + n
    → HasNoPlace (layout_of m) from (number + 1) end n
no_place_past m from place number end n so_far there short q low high fits free =
    below_or_not ⊥ q place (λ l. so_far q low l fits free)
    (λ h.
    let is : q + (number - q) ≡ number = omega arith in
    none_there (map.get (layout_of m) number) (contains_layout m number ∙ there) (ap (map.get (layout_of m)) (sym is) ∙ free (number - q) (omega arith)))
