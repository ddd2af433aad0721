-- What each change of pages leaves at a page, and how many pages there are then.
use Rattle.std.specs.FinMap as map
use Rattle.std.proofs.Common.{◌≡◌, ◌≢◌, inl, inr, ℕ, ◌+◌, ◌-◌, ◌/◌, ◌%◌, ◌≤◌, ◌<◌, zero, suc, Bool, true, false, List, [], ◌∷◌, refl, ap, ◌∙◌, arith, cond, Option, Some, None, is_some}
use Rattle.std.specs.Option.{option_map}
use Rattle.std.specs.Cmp.{nat_cmp_total}
use Rattle.std.proofs.lemmas.Bool.{cases_eq}
use Rattle.rv_mem.specs.declared.rights.Rights.{Rights}
use Rattle.rv_mem.specs.Page.{PageState, fresh_page, page_written, page_marked}
use Rattle.rv_mem.specs.Pages.{Pages, with_page, written, marked, mapped, unmapped, protected}
use Rattle.rv_table.proofs.pr_base.MapLemmas.{by_key, get-insert_same, get-insert_other, get-remove_same, get-remove_other, get-changed_same, get-changed_other, changed-some, changed-none}

-- ---- which pages are there

is_some-map : (f : PageState → PageState) (o : Option PageState) → is_some (option_map f o) ≡ is_some o
is_some-map f None = refl
is_some-map f (Some p) = refl

pub contains-with_page : (m : Pages) (k : ℕ) (f : PageState → PageState) (q : ℕ) → map.contains_key (with_page m k f) q ≡ map.contains_key m q
contains-with_page m k f =
    by_key (λ q. map.contains_key (with_page m k f) q ≡ map.contains_key m q) k
    (ap is_some (get-changed_same m k f) ∙ is_some-map f (map.get m k))
    (λ q h. ap is_some (get-changed_other m k f q h))

pub contains-written : (m : Pages) (at : ℕ) (bs : List ℕ) (q : ℕ) → map.contains_key (written m at bs) q ≡ map.contains_key m q
unfolding written
contains-written m at [] q = refl
contains-written m at (b ∷ bs) q = contains-written (with_page m (at / 4096) (page_written (at % 4096) (b ∷ []))) (at + 1) bs q ∙ contains-with_page m (at / 4096) _ q

pub contains-marked : (m : Pages) (at n q : ℕ) → map.contains_key (marked m at n) q ≡ map.contains_key m q
unfolding marked
contains-marked m at zero q = refl
contains-marked m at (suc n) q = contains-marked (with_page m (at / 4096) (page_marked (at % 4096) 1)) (at + 1) n q ∙ contains-with_page m (at / 4096) _ q

pub contains-protected : (m : Pages) (first n : ℕ) (rights : Rights) (q : ℕ) → map.contains_key (protected m first n rights) q ≡ map.contains_key m q
unfolding protected
contains-protected m first zero rights q = refl
contains-protected m first (suc n) rights q = contains-with_page (protected m first n rights) (first + n) _ q ∙ contains-protected m first n rights q

-- ---- how many there are

len-same : (m n : Pages) (k : ℕ) (p : PageState) → map.contains_key m k ≡ true → map.len (map.insert m k p) ≡ map.len m
len-same m n k p h = map.len-insert nat_cmp_total m k p ∙ ap (λ b. cond b (map.len m) (map.len m + 1)) h

len-changed : (m : Pages) (k : ℕ) (f : PageState → PageState) (o : Option PageState) → map.get m k ≡ o → map.len (with_page m k f) ≡ map.len m
len-changed m k f None e = ap map.len (changed-none m k f e)
len-changed m k f (Some p) e = ap map.len (changed-some m k f p e) ∙ len-same m m k (f p) (ap is_some e)

pub len-with_page : (m : Pages) (k : ℕ) (f : PageState → PageState) → map.len (with_page m k f) ≡ map.len m
len-with_page m k f = len-changed m k f (map.get m k) refl

pub len-written : (m : Pages) (at : ℕ) (bs : List ℕ) → map.len (written m at bs) ≡ map.len m
unfolding written
len-written m at [] = refl
len-written m at (b ∷ bs) = len-written (with_page m (at / 4096) (page_written (at % 4096) (b ∷ []))) (at + 1) bs ∙ len-with_page m (at / 4096) _

pub len-marked : (m : Pages) (at n : ℕ) → map.len (marked m at n) ≡ map.len m
unfolding marked
len-marked m at zero = refl
len-marked m at (suc n) = len-marked (with_page m (at / 4096) (page_marked (at % 4096) 1)) (at + 1) n ∙ len-with_page m (at / 4096) _

pub len-protected : (m : Pages) (first n : ℕ) (rights : Rights) → map.len (protected m first n rights) ≡ map.len m
unfolding protected
len-protected m first zero rights = refl
len-protected m first (suc n) rights = len-with_page (protected m first n rights) (first + n) _ ∙ len-protected m first n rights

one_less : (b : Bool) (n : ℕ) → cond b (n - 1) n ≤ n
one_less true n = omega arith
one_less false n = omega arith

pub len-unmapped-le : (m : Pages) (first n : ℕ) → map.len (unmapped m first n) ≤ map.len m
unfolding unmapped
len-unmapped-le m first zero = omega arith
len-unmapped-le m first (suc n) =
    let less = one_less (map.contains_key (unmapped m first n) (first + n)) (map.len (unmapped m first n)) in
    omega (arith, less, map.len-remove nat_cmp_total (unmapped m first n) (first + n), len-unmapped-le m first n)

-- ---- mapping

pub get-mapped_out : (m : Pages) (first n : ℕ) (rights : Rights) (q : ℕ) → ((k : ℕ) → k < n → q ≢ first + k) → map.get (mapped m first n rights) q ≡ map.get m q
unfolding mapped
get-mapped_out m first zero rights q h = refl
get-mapped_out m first (suc n) rights q h =
    get-insert_other (mapped m first n rights) (first + n) (fresh_page rights) q (h n (omega arith))
    ∙ get-mapped_out m first n rights q (λ k l. h k (omega arith))

pub get-mapped_in : (m : Pages) (first n : ℕ) (rights : Rights) (k : ℕ) → k < n → map.get (mapped m first n rights) (first + k) ≡ Some (fresh_page rights)
unfolding mapped
get-mapped_in m first zero rights k h = absurd (omega arith)
get-mapped_in m first (suc n) rights k h =
    elim (cases_eq k n) [
      | inl e ↦ ap (λ j. map.get (mapped m first (suc n) rights) (first + j)) e ∙ get-insert_same (mapped m first n rights) (first + n) (fresh_page rights)
      | inr d ↦
          let other : first + k ≢ first + n = λ e. d (omega arith) in
          let below : k < n = omega arith in
          get-insert_other (mapped m first n rights) (first + n) (fresh_page rights) (first + k) other ∙ get-mapped_in m first n rights k below
    ]

-- one page more is counted where it wasn't there
pub len-mapped_more : (m : Pages) (first n : ℕ) (rights : Rights) → map.len (mapped m first (suc n) rights) ≡ cond (map.contains_key m (first + n)) (map.len (mapped m first n rights)) (map.len (mapped m first n rights) + 1)
unfolding mapped
len-mapped_more m first n rights =
    map.len-insert nat_cmp_total (mapped m first n rights) (first + n) (fresh_page rights)
    ∙ ap (λ o. cond (is_some o) (map.len (mapped m first n rights)) (map.len (mapped m first n rights) + 1))
    (get-mapped_out m first n rights (first + n) (λ k l e. absurd (omega arith)))

at_least : (b : Bool) (n : ℕ) → n ≤ cond b n (n + 1)
at_least true n = omega arith
at_least false n = omega arith

-- more pages are no fewer
pub len-mapped-le : (m : Pages) (first n k : ℕ) (rights : Rights) → map.len (mapped m first n rights) ≤ map.len (mapped m first (n + k) rights)
len-mapped-le m first n zero rights =
    let same : n ≡ n + zero = omega arith in
    let len : map.len (mapped m first n rights) ≡ map.len (mapped m first (n + zero) rights) = ap (λ j. map.len (mapped m first j rights)) same in
    omega (arith, len)
len-mapped-le m first n (suc k) rights =
    let same : n + suc k ≡ suc (n + k) = omega arith in
    let len : map.len (mapped m first (n + suc k) rights) ≡ map.len (mapped m first (suc (n + k)) rights) = ap (λ j. map.len (mapped m first j rights)) same in
    let more = at_least (map.contains_key m (first + (n + k))) (map.len (mapped m first (n + k) rights)) in
    omega (arith, len, len-mapped_more m first (n + k) rights, more, len-mapped-le m first n k rights)

-- ---- unmapping

pub get-unmapped_out : (m : Pages) (first n : ℕ) (q : ℕ) → ((k : ℕ) → k < n → q ≢ first + k) → map.get (unmapped m first n) q ≡ map.get m q
unfolding unmapped
get-unmapped_out m first zero q h = refl
get-unmapped_out m first (suc n) q h =
    get-remove_other (unmapped m first n) (first + n) q (h n (omega arith)) ∙ get-unmapped_out m first n q (λ k l. h k (omega arith))

pub get-unmapped_in : (m : Pages) (first n k : ℕ) → k < n → map.get (unmapped m first n) (first + k) ≡ None
unfolding unmapped
get-unmapped_in m first zero k h = absurd (omega arith)
get-unmapped_in m first (suc n) k h =
    elim (cases_eq k n) [
      | inl e ↦ ap (λ j. map.get (unmapped m first (suc n)) (first + j)) e ∙ get-remove_same (unmapped m first n) (first + n)
      | inr d ↦
          let other : first + k ≢ first + n = λ e. d (omega arith) in
          let below : k < n = omega arith in
          get-remove_other (unmapped m first n) (first + n) (first + k) other ∙ get-unmapped_in m first n k below
    ]
