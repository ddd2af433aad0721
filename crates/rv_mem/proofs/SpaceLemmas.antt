-- Pages stay below the last address, and whole, after each change.
use Rattle.std.specs.FinMap as map
use Rattle.std.proofs.Common.{◌≡◌, ℕ, zero, suc, ◌+◌, ◌/◌, ◌%◌, ◌≤◌, ◌<◌, true, false, List, [], ◌∷◌, length, replicate, refl, sym, ap, subst, ◌∙◌, arith, Option, Some, None, is_some}
use Rattle.std.specs.Option.{option_map}
use Rattle.std.proofs.Math.Seq.{length-sets}
use Rattle.std.specs.Ordering.{nat_cmp}
use Rattle.rv_mem.specs.declared.rights.Rights.{Rights}
use Rattle.rv_mem.specs.Page.{PageState, fresh_page, page_written, page_marked, page_with_rights}
use Rattle.rv_mem.specs.Pages.{Pages, with_page, written, marked, mapped, unmapped, protected, IsPlaced, IsWhole}
use Rattle.rv_mem.proofs.ChangeLemmas.{contains-written, contains-marked, contains-protected, get-mapped_out, get-unmapped_in, get-unmapped_out}
use Rattle.rv_mem.proofs.PageLemmas.{length-zero_bytes, length-no_marks}
use Rattle.rv_table.proofs.pr_base.MapLemmas.{by_key, get-insert_same, get-insert_other, get-remove_same, get-remove_other, get-changed_same, get-changed_other}
use Rattle.rv_mem.proofs.TableLemmas.{by_range}

pub IsPlaced-empty : IsPlaced map.empty
IsPlaced-empty k h = let none : is_some (map.get (map.empty {X = PageState} {R = nat_cmp}) k) ≡ false = ap is_some (map.get-empty nat_cmp k) in absurd cc

pub IsPlaced-written : (m : Pages) (at : ℕ) (bs : List ℕ) → IsPlaced m → IsPlaced (written m at bs)
IsPlaced-written m at bs placed k h = placed k (sym (contains-written m at bs k) ∙ h)

pub IsPlaced-marked : (m : Pages) (at n : ℕ) → IsPlaced m → IsPlaced (marked m at n)
IsPlaced-marked m at n placed k h = placed k (sym (contains-marked m at n k) ∙ h)

pub IsPlaced-protected : (m : Pages) (first n : ℕ) (rights : Rights) → IsPlaced m → IsPlaced (protected m first n rights)
IsPlaced-protected m first n rights placed k h = placed k (sym (contains-protected m first n rights k) ∙ h)

pub IsPlaced-mapped : (m : Pages) (first n : ℕ) (rights : Rights) → first + n ≤ 67108863 → IsPlaced m → IsPlaced (mapped m first n rights)
IsPlaced-mapped m first n rights below placed =
    by_range (λ q. map.contains_key (mapped m first n rights) q ≡ true → q < 67108863) first n
    (λ k l h. omega arith)
    (λ q apart h. placed q (sym (ap is_some (get-mapped_out m first n rights q apart)) ∙ h))

pub IsPlaced-unmapped : (m : Pages) (first n : ℕ) → IsPlaced m → IsPlaced (unmapped m first n)
IsPlaced-unmapped m first n placed =
    by_range (λ q. map.contains_key (unmapped m first n) q ≡ true → q < 67108863) first n
    (λ k l h. let gone : map.contains_key (unmapped m first n) (first + k) ≡ false = ap is_some (get-unmapped_in m first n k l) in absurd cc)
    (λ q apart h. placed q (sym (ap is_some (get-unmapped_out m first n q apart)) ∙ h))

-- ---- what holds of every page

abbrev pub EachPage : (PageState → Type 0) → Pages → Type 0
EachPage P m = (k : ℕ) (p : PageState) → map.get m k ≡ Some p → P p

module _ (P : PageState → Type 0) where
  one_some : (p q : PageState) → P p → Some p ≡ Some q → P q
  one_some p q h e = let same : p ≡ q = cc in subst P same h

  one_map : (f : PageState → PageState) (o : Option PageState) → ((p : PageState) → o ≡ Some p → P (f p)) → (p : PageState) → option_map f o ≡ Some p → P p
  one_map f None h p e = absurd cc
  one_map f (Some w) h p e = one_some (f w) p (h w refl) e

  pub each-empty : EachPage P map.empty
  each-empty k p h = let none : None ≡ Some p = sym (map.get-empty nat_cmp k) ∙ h in absurd cc

  pub each-insert : (m : Pages) (k : ℕ) (w : PageState) → P w → EachPage P m → EachPage P (map.insert m k w)
  each-insert m k w h each =
      by_key (λ q. (p : PageState) → map.get (map.insert m k w) q ≡ Some p → P p) k
      (λ p e. one_some w p h (sym (get-insert_same m k w) ∙ e))
      (λ q d p e. each q p (sym (get-insert_other m k w q d) ∙ e))

  pub each-remove : (m : Pages) (k : ℕ) → EachPage P m → EachPage P (map.remove m k)
  each-remove m k each =
      by_key (λ q. (p : PageState) → map.get (map.remove m k) q ≡ Some p → P p) k
      (λ p e. let none : None ≡ Some p = sym (get-remove_same m k) ∙ e in absurd cc)
      (λ q d p e. each q p (sym (get-remove_other m k q d) ∙ e))

  pub each-with_page : (m : Pages) (k : ℕ) (f : PageState → PageState) → ((p : PageState) → P p → P (f p)) → EachPage P m → EachPage P (with_page m k f)
  each-with_page m k f keeps each =
      by_key (λ q. (p : PageState) → map.get (with_page m k f) q ≡ Some p → P p) k
      (λ p e. one_map f (map.get m k) (λ w is. keeps w (each k w is)) p (sym (get-changed_same m k f) ∙ e))
      (λ q d p e. each q p (sym (get-changed_other m k f q d) ∙ e))

-- ---- every page stays whole

abbrev WholePage : PageState → Type 0
WholePage p = (length p.bytes ≡ 4096) × (length p.marks ≡ 4096)

pub IsWhole-empty : IsWhole map.empty
IsWhole-empty = each-empty WholePage

pub IsWhole-written : (m : Pages) (at : ℕ) (bs : List ℕ) → IsWhole m → IsWhole (written m at bs)
unfolding written
IsWhole-written m at [] whole = whole
IsWhole-written m at (b ∷ bs) whole =
    IsWhole-written (with_page m (at / 4096) (page_written (at % 4096) (b ∷ []))) (at + 1) bs
    (each-with_page WholePage m (at / 4096) (page_written (at % 4096) (b ∷ []))
    (λ p h. (length-sets p.bytes (at % 4096) (b ∷ []) ∙ h.0, length-sets p.marks (at % 4096) (replicate 1 false) ∙ h.1)) whole)

pub IsWhole-marked : (m : Pages) (at n : ℕ) → IsWhole m → IsWhole (marked m at n)
unfolding marked
IsWhole-marked m at zero whole = whole
IsWhole-marked m at (suc n) whole =
    IsWhole-marked (with_page m (at / 4096) (page_marked (at % 4096) 1)) (at + 1) n
    (each-with_page WholePage m (at / 4096) (page_marked (at % 4096) 1)
    (λ p h. (h.0, length-sets p.marks (at % 4096) (replicate 1 true) ∙ h.1)) whole)

pub IsWhole-protected : (m : Pages) (first n : ℕ) (rights : Rights) → IsWhole m → IsWhole (protected m first n rights)
unfolding protected
IsWhole-protected m first zero rights whole = whole
IsWhole-protected m first (suc n) rights whole =
    each-with_page WholePage (protected m first n rights) (first + n) (page_with_rights rights) (λ p h. h) (IsWhole-protected m first n rights whole)

pub IsWhole-mapped : (m : Pages) (first n : ℕ) (rights : Rights) → IsWhole m → IsWhole (mapped m first n rights)
unfolding mapped
IsWhole-mapped m first zero rights whole = whole
IsWhole-mapped m first (suc n) rights whole =
    each-insert WholePage (mapped m first n rights) (first + n) (fresh_page rights) (length-zero_bytes, length-no_marks) (IsWhole-mapped m first n rights whole)

pub IsWhole-unmapped : (m : Pages) (first n : ℕ) → IsWhole m → IsWhole (unmapped m first n)
unfolding unmapped
IsWhole-unmapped m first zero whole = whole
IsWhole-unmapped m first (suc n) whole = each-remove WholePage (unmapped m first n) (first + n) (IsWhole-unmapped m first n whole)
