-- What stands in pages stays of bytes.
use Rattle.std.specs.FinMap as map
use Rattle.std.proofs.Common.{◌≡◌, ℕ, zero, suc, ◌+◌, ◌/◌, ◌%◌, ◌<◌, List, [], ◌∷◌, replicate, arith, Option, Some, None, slice_index, slice_index_or, Fits, w8, refl}
use Rattle.std.specs.Prelude.{slice_set}
use Rattle.std.specs.List.{AllByRecursion}
use Rattle.std.specs.Option.{option_map_or}
use Rattle.rv_mem.specs.declared.rights.Rights.{Rights}
use Rattle.rv_mem.specs.Page.{PageState, fresh_page, page_written, page_marked, page_with_rights, zero_bytes}
use Rattle.rv_mem.specs.Pages.{Pages, with_page, written, marked, mapped, unmapped, protected, HoldsBytes, IsOfBytes}
use Rattle.rv_mem.proofs.SpaceLemmas.{each-empty, each-insert, each-remove, each-with_page}

-- ---- lists

abbrev AreBytes : List ℕ → Type 0
AreBytes bytes = AllByRecursion (λ b. b < 256) bytes

bytes-set : (bytes : List ℕ) (i b : ℕ) → b < 256 → AreBytes bytes → AreBytes (slice_set bytes i b)
bytes-set [] i b small are = tt
bytes-set (x ∷ bytes) zero b small are = (small, are.1)
bytes-set (x ∷ bytes) (suc i) b small are = (are.0, bytes-set bytes i b small are.1)

bytes-zero : (n : ℕ) → AreBytes (replicate n 0)
bytes-zero zero = tt
bytes-zero (suc n) = (omega arith, bytes-zero n)

bytes-index : (bytes : List ℕ) (i : ℕ) → AreBytes bytes → slice_index bytes i < 256
bytes-index [] i are = omega arith
bytes-index (b ∷ bytes) zero are = are.0
bytes-index (b ∷ bytes) (suc i) are = bytes-index bytes i are.1

-- what a slice of bytes is known to have
pub known-bytes : (bytes : List ℕ) → ((i : ℕ) → Fits w8 (slice_index_or bytes i 0)) → AreBytes bytes
known-bytes [] fits = tt
known-bytes (b ∷ bytes) fits = (let here = (fits 0).fits in omega (arith, here), known-bytes bytes (λ i. fits (suc i)))

-- ---- pages

abbrev BytePage : PageState → Type 0
BytePage p = AreBytes p.bytes

pub holds-bytes : (m : Pages) → IsOfBytes m → HoldsBytes m
holds-bytes m each a = by (map.get m (a / 4096)) refl
  where
    by : (o : Option PageState) → map.get m (a / 4096) ≡ o → option_map_or (λ (p : PageState). slice_index p.bytes (a % 4096)) o 0 < 256
    by None e = omega arith
    by (Some p) e = bytes-index p.bytes (a % 4096) (each (a / 4096) p e)

pub IsOfBytes-empty : IsOfBytes map.empty
IsOfBytes-empty = each-empty BytePage

pub IsOfBytes-written : (m : Pages) (at : ℕ) (bs : List ℕ) → AreBytes bs → IsOfBytes m → IsOfBytes (written m at bs)
unfolding written
IsOfBytes-written m at [] are each = each
IsOfBytes-written m at (b ∷ bs) are each =
    IsOfBytes-written (with_page m (at / 4096) (page_written (at % 4096) (b ∷ []))) (at + 1) bs are.1
    (each-with_page BytePage m (at / 4096) (page_written (at % 4096) (b ∷ [])) (λ p h. bytes-set p.bytes (at % 4096) b are.0 h) each)

pub IsOfBytes-marked : (m : Pages) (at n : ℕ) → IsOfBytes m → IsOfBytes (marked m at n)
unfolding marked
IsOfBytes-marked m at zero each = each
IsOfBytes-marked m at (suc n) each =
    IsOfBytes-marked (with_page m (at / 4096) (page_marked (at % 4096) 1)) (at + 1) n (each-with_page BytePage m (at / 4096) (page_marked (at % 4096) 1) (λ p h. h) each)

pub IsOfBytes-protected : (m : Pages) (first n : ℕ) (rights : Rights) → IsOfBytes m → IsOfBytes (protected m first n rights)
unfolding protected
IsOfBytes-protected m first zero rights each = each
IsOfBytes-protected m first (suc n) rights each =
    each-with_page BytePage (protected m first n rights) (first + n) (page_with_rights rights) (λ p h. h) (IsOfBytes-protected m first n rights each)

zeros-are-bytes : AreBytes zero_bytes
unfolding zero_bytes
zeros-are-bytes = bytes-zero 4096

pub IsOfBytes-mapped : (m : Pages) (first n : ℕ) (rights : Rights) → IsOfBytes m → IsOfBytes (mapped m first n rights)
unfolding mapped
IsOfBytes-mapped m first zero rights each = each
IsOfBytes-mapped m first (suc n) rights each =
    each-insert BytePage (mapped m first n rights) (first + n) (fresh_page rights) zeros-are-bytes (IsOfBytes-mapped m first n rights each)

pub IsOfBytes-unmapped : (m : Pages) (first n : ℕ) → IsOfBytes m → IsOfBytes (unmapped m first n)
unfolding unmapped
IsOfBytes-unmapped m first zero each = each
IsOfBytes-unmapped m first (suc n) each = each-remove BytePage (unmapped m first n) (first + n) (IsOfBytes-unmapped m first n each)
