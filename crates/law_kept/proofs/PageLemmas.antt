-- Pages that hold bytes hold them still, whatever is written, mapped, taken away or marked, if what is written are bytes.
use Rattle.std.specs.FinMap as map
use Rattle.std.proofs.Common.{inl, inr, ℕ, zero, suc, ◌+◌, ◌/◌, ◌%◌, ◌<◌, List, [], ◌∷◌, replicate, slice_index, Option, Some, None, sym, subst, arith}
use Rattle.std.specs.Prelude.{slice_set}
use Rattle.std.specs.Option.{option_map, option_map_or}
use Rattle.std.specs.Ordering.{nat_cmp}
use Rattle.std.proofs.lemmas.Bool.{cases_eq}
use Rattle.kr_first.proofs.pr_base.MapLemmas.{get-changed_other, get-changed_same, get-insert_other, get-insert_same, get-remove_other, get-remove_same}
use Rattle.kr_first.specs.rv_mem.declared.rights.Rights.{Rights}
use Rattle.kr_first.specs.rv_mem.Page.{PageState, fresh_page, page_with_rights, page_written, zero_bytes}
use Rattle.kr_first.specs.rv_mem.Pages.{HoldsBytes, Pages, mapped, marked, protected, unmapped, with_page, written}
use Rattle.kr_first.proofs.rv_mem.AddressLemmas.{byte_at-marked}
use Rattle.kr_first.specs.kr_tree.Lawful.{AreBytes}

-- ---- one page

-- the byte of a page, and 0 where there is none
abbrev at_index : ℕ → Option PageState → ℕ
at_index i o = option_map_or (λ (p : PageState). slice_index p.bytes i) o 0

set-small : (bytes : List ℕ) (i j b : ℕ) → b < 256 → slice_index bytes j < 256 → slice_index (slice_set bytes i b) j < 256
set-small [] i j b small was = was
set-small (x ∷ bytes) zero zero b small was = small
set-small (x ∷ bytes) zero (suc j) b small was = was
set-small (x ∷ bytes) (suc i) zero b small was = was
set-small (x ∷ bytes) (suc i) (suc j) b small was = set-small bytes i j b small was

-- a page changed in a way that keeps a byte small
page-small : (m : Pages) (k : ℕ) (f : PageState → PageState) (i q : ℕ) → ((p : PageState) → slice_index p.bytes i < 256 → slice_index (f p).bytes i < 256) → at_index i (map.get m q) < 256 → at_index i (map.get (with_page m k f) q) < 256
page-small m k f i q keeps was =
    elim (cases_eq q k) [
      | inl is ↦ subst (λ (r : ℕ). at_index i (map.get (with_page m k f) r) < 256) (sym is)
          (subst (λ (o : Option PageState). at_index i o < 256) (sym (get-changed_same m k f)) (changed (map.get m k) (subst (λ (r : ℕ). at_index i (map.get m r) < 256) is was)))
      | inr other ↦ subst (λ (o : Option PageState). at_index i o < 256) (sym (get-changed_other m k f q other)) was
    ]
  where
    changed : (o : Option PageState) → at_index i o < 256 → at_index i (option_map f o) < 256
    changed None was = was
    changed (Some p) was = keeps p was

-- a page in place of another
put-small : (m : Pages) (k : ℕ) (p : PageState) (i q : ℕ) → slice_index p.bytes i < 256 → at_index i (map.get m q) < 256 → at_index i (map.get (map.insert m k p) q) < 256
put-small m k p i q own was =
    elim (cases_eq q k) [
      | inl is ↦ subst (λ (r : ℕ). at_index i (map.get (map.insert m k p) r) < 256) (sym is) (subst (λ (o : Option PageState). at_index i o < 256) (sym (get-insert_same m k p)) own)
      | inr other ↦ subst (λ (o : Option PageState). at_index i o < 256) (sym (get-insert_other m k p q other)) was
    ]

gone-small : (m : Pages) (k i q : ℕ) → at_index i (map.get m q) < 256 → at_index i (map.get (map.remove m k) q) < 256
gone-small m k i q was =
    elim (cases_eq q k) [
      | inl is ↦ subst (λ (r : ℕ). at_index i (map.get (map.remove m k) r) < 256) (sym is) (subst (λ (o : Option PageState). at_index i o < 256) (sym (get-remove_same m k)) (omega arith))
      | inr other ↦ subst (λ (o : Option PageState). at_index i o < 256) (sym (get-remove_other m k q other)) was
    ]

-- ---- changes of pages

pub holds-empty : HoldsBytes map.empty
holds-empty a = subst (λ (o : Option PageState). at_index (a % 4096) o < 256) (sym (map.get-empty nat_cmp (a / 4096))) (omega arith)

pub holds-written : (m : Pages) (at : ℕ) (bs : List ℕ) → AreBytes bs → HoldsBytes m → HoldsBytes (written m at bs)
unfolding written
holds-written m at [] are holds = holds
holds-written m at (b ∷ bs) are holds =
    holds-written (with_page m (at / 4096) (page_written (at % 4096) (b ∷ []))) (at + 1) bs are.1
    (λ a. page-small m (at / 4096) (page_written (at % 4096) (b ∷ [])) (a % 4096) (a / 4096) (λ p was. set-small p.bytes (at % 4096) (a % 4096) b are.0 was) (holds a))

pub holds-marked : (m : Pages) (at n : ℕ) → HoldsBytes m → HoldsBytes (marked m at n)
holds-marked m at n holds a = subst (λ (b : ℕ). b < 256) (sym (byte_at-marked m at n a)) (holds a)

pub holds-protected : (m : Pages) (first n : ℕ) (rights : Rights) → HoldsBytes m → HoldsBytes (protected m first n rights)
unfolding protected
holds-protected m first zero rights holds a = holds a
holds-protected m first (suc n) rights holds a =
    page-small (protected m first n rights) (first + n) (page_with_rights rights) (a % 4096) (a / 4096) (λ p was. was) (holds-protected m first n rights holds a)

zero-small : (n i : ℕ) → slice_index (replicate {A = ℕ} n 0) i < 256
zero-small zero i = omega arith
zero-small (suc n) zero = omega arith
zero-small (suc n) (suc i) = zero-small n i

fresh-small : (rights : Rights) (i : ℕ) → slice_index (fresh_page rights).bytes i < 256
unfolding zero_bytes
fresh-small rights i = zero-small 4096 i

pub holds-mapped : (m : Pages) (first n : ℕ) (rights : Rights) → HoldsBytes m → HoldsBytes (mapped m first n rights)
unfolding mapped
holds-mapped m first zero rights holds a = holds a
holds-mapped m first (suc n) rights holds a =
    put-small (mapped m first n rights) (first + n) (fresh_page rights) (a % 4096) (a / 4096) (fresh-small rights (a % 4096)) (holds-mapped m first n rights holds a)

pub holds-unmapped : (m : Pages) (first n : ℕ) → HoldsBytes m → HoldsBytes (unmapped m first n)
unfolding unmapped
holds-unmapped m first zero holds a = holds a
holds-unmapped m first (suc n) holds a = gone-small (unmapped m first n) (first + n) (a % 4096) (a / 4096) (holds-unmapped m first n holds a)
