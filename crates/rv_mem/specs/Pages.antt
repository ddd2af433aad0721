-- The pages of a memory, by their numbers: the byte at an address is the one at its remainder by
-- 4,096 in the page of its quotient.
use Rattle.std.specs.FinMap as map
use Rattle.std.specs.Prelude.{◌≡◌, ◌≤◌, ◌<◌, Some, None, length, ℕ, zero, suc, ◌+◌, ◌/◌, ◌%◌, Bool, false, true, ◌&&◌, ◌||◌, List, [], ◌∷◌, slice_index, slice_index_or, nat_eq}
use Rattle.std.specs.List.{AllByRecursion}
use Rattle.std.specs.Option.{option_map_or}
use Rattle.std.specs.Ordering.{nat_cmp}
use Rattle.std.specs.Coded.{Coded, coded_ℕ}
use Rattle.rv_table.specs.pr_base.Maps.{changed}
use Rattle.rv_mem.specs.declared.rights.Rights.{Rights}
use Rattle.rv_mem.specs.declared.rights.Use.{Use}
use Rattle.rv_mem.specs.Page.{PageState, page_code, fresh_page, grants, page_with_rights, page_written, page_marked}
use Rattle.rv_table.specs.pr_base.Page.{page_size}

abbrev pub Pages : Type 0
Pages = map.FinMap nat_cmp PageState

abbrev pub pages_code : Coded Pages
pages_code = map.code coded_ℕ page_code

-- ---- what stands at an address

-- the byte at an address, and 0 where there is no page
abbrev pub byte_at : Pages → ℕ → ℕ
byte_at m a = option_map_or (λ p. slice_index p.bytes (a % page_size)) (map.get m (a / page_size)) 0

-- whether the byte at an address is marked
abbrev pub is_marked : Pages → ℕ → Bool
is_marked m a = option_map_or (λ p. slice_index_or p.marks (a % page_size) false) (map.get m (a / page_size)) false

-- whether the page at a number is there and allows a use
abbrev pub page_allows : Pages → ℕ → Use → Bool
page_allows m number what = option_map_or (λ p. grants p.rights what) (map.get m number) false

-- whether the byte at an address is there and allows a use
abbrev pub allows : Pages → ℕ → Use → Bool
allows m a what = page_allows m (a / page_size) what

-- ---- ranges of addresses

-- whether each of n bytes allows a use
unfoldable pub allows_all : Pages → ℕ → ℕ → Use → Bool
allows_all m at zero what = true
allows_all m at (suc n) what = allows m at what && allows_all m (at + 1) n what

-- whether one of n bytes is marked
unfoldable pub any_marked : Pages → ℕ → ℕ → Bool
any_marked m at zero = false
any_marked m at (suc n) = is_marked m at || any_marked m (at + 1) n

-- the n bytes from an address on
unfoldable pub bytes_from : Pages → ℕ → ℕ → List ℕ
bytes_from m at zero = []
bytes_from m at (suc n) = byte_at m at ∷ bytes_from m (at + 1) n

-- whether each of n pages is there
unfoldable pub has_pages : Pages → ℕ → ℕ → Bool
has_pages m first zero = true
has_pages m first (suc n) = has_pages m first n && map.contains_key m (first + n)

-- no page at a number from `from` up to, but without, `to`
abbrev pub HasNoPages : Pages → ℕ → ℕ → Type 0
HasNoPages m from to = (k : ℕ) → from ≤ k → k < to → map.get m k ≡ None

-- each of n bytes from an address on is there
abbrev pub HasPagesAt : Pages → ℕ → ℕ → Type 0
HasPagesAt m at n = (k : ℕ) → k < n → map.contains_key m ((at + k) / page_size) ≡ true

-- a read into these bytes was refused: one of them isn't allowed, and they are as before
pub record IsRefused (m : Pages) (at : ℕ) (what : Use) (old new : List ℕ) : Type 0 where
  pub refused : allows_all m at (length old) what ≡ false
  pub kept : new ≡ old

-- a read into these bytes: all of them are allowed, and it tells whether one of them is marked
pub record IsRead (m : Pages) (at : ℕ) (what : Use) (old new : List ℕ) (marks : Bool) : Type 0 where
  pub allowed : allows_all m at (length old) what ≡ true
  pub bytes : new ≡ bytes_from m at (length old)
  pub marked : marks ≡ any_marked m at (length old)

-- none of n bytes from an address on is zero
abbrev pub HasNoZero : Pages → ℕ → ℕ → Type 0
HasNoZero m at n = (k : ℕ) → k < n → nat_eq (byte_at m (at + k)) 0 ≡ false

-- every page lies below the address 0x3F_FFFF_F000
abbrev pub IsPlaced : Pages → Type 0
IsPlaced m = (k : ℕ) → map.contains_key m k ≡ true → k < 67108863

-- every page has 4,096 bytes and as many marks
abbrev pub IsWhole : Pages → Type 0
IsWhole m = (k : ℕ) (p : PageState) → map.get m k ≡ Some p → (length p.bytes ≡ page_size) × (length p.marks ≡ page_size)

-- what stands in a page are bytes
abbrev pub IsOfBytes : Pages → Type 0
IsOfBytes m = (k : ℕ) (p : PageState) → map.get m k ≡ Some p → AllByRecursion (λ b. b < 256) p.bytes

-- so each address has a byte
abbrev pub HoldsBytes : Pages → Type 0
HoldsBytes m = (a : ℕ) → byte_at m a < 256

-- ---- changes

-- the pages with f done to the one at a number, if one is there
abbrev pub with_page : Pages → ℕ → (PageState → PageState) → Pages
with_page m number f = changed m number f

-- the bytes written from an address on
unfoldable pub written : Pages → ℕ → List ℕ → Pages
written m at [] = m
written m at (b ∷ bs) = written (with_page m (at / page_size) (page_written (at % page_size) (b ∷ []))) (at + 1) bs

-- the pages from a number on replaced by these, those apart that aren't there
unfoldable pub replaced : Pages → ℕ → List PageState → Pages
replaced m first [] = m
replaced m first (p ∷ ps) = replaced (with_page m first (λ _. p)) (first + 1) ps

-- the n bytes from an address on marked, those apart that aren't there
unfoldable pub marked : Pages → ℕ → ℕ → Pages
marked m at zero = m
marked m at (suc n) = marked (with_page m (at / page_size) (page_marked (at % page_size) 1)) (at + 1) n

-- n fresh pages from a number on, in place of those that are there
unfoldable pub mapped : Pages → ℕ → ℕ → Rights → Pages
mapped m first zero rights = m
mapped m first (suc n) rights = map.insert (mapped m first n rights) (first + n) (fresh_page rights)

-- n pages from a number on taken away
unfoldable pub unmapped : Pages → ℕ → ℕ → Pages
unmapped m first zero = m
unmapped m first (suc n) = map.remove (unmapped m first n) (first + n)

-- n pages from a number on given other rights
unfoldable pub protected : Pages → ℕ → ℕ → Rights → Pages
protected m first zero rights = m
protected m first (suc n) rights = with_page (protected m first n rights) (first + n) (page_with_rights rights)
