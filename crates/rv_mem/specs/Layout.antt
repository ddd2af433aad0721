-- The layout of a memory: which pages are mapped, and with which rights. It is what calls ask of a memory but for its bytes.
use Rattle.std.specs.FinMap as map
use Rattle.std.specs.Prelude.{◌≡◌, ◌≤◌, ◌<◌, ℕ, zero, suc, ◌+◌, Bool, false, ◌||◌, List, None}
use Rattle.std.specs.Ordering.{nat_cmp}
use Rattle.rv_table.specs.pr_base.Maps.{changed, mapped as each_mapped}
use Rattle.rv_mem.specs.declared.rights.Rights.{Rights}
use Rattle.rv_mem.specs.Pages.{Pages, written, marked, mapped, unmapped, protected}
use Rattle.rv_mem.specs.Actions.{AreEqualUnmarked, rights_of}

abbrev pub Layout : Type 0
Layout = map.FinMap nat_cmp Rights

abbrev pub layout_of : Pages → Layout
layout_of m = each_mapped (λ n p. p.rights) m

-- the layout with f done at each of n numbers, the first one first
unfoldable pub laid : Layout → ℕ → ℕ → (Layout → ℕ → Layout) → Layout
laid l first zero f = l
laid l first (suc n) f = f (laid l first n f) (first + n)

-- ---- what is asked of it

-- whether one of n pages is mapped
unfoldable pub has_page : Layout → ℕ → ℕ → Bool
has_page l first zero = false
has_page l first (suc n) = map.contains_key l first || has_page l (first + 1) n

-- none of n pages is mapped
abbrev pub IsFree : Layout → ℕ → ℕ → Type 0
IsFree l first n = (k : ℕ) → k < n → map.get l (first + k) ≡ None

-- no place for n pages from `from` up to, but without, `to` is free and ends by `end`
abbrev pub HasNoPlace : Layout → (from to end n : ℕ) → Type 0
HasNoPlace l from to end n = (q : ℕ) → from ≤ q → q < to → q + n ≤ end → IsFree l q n → ⊥

-- a free place for n pages from `from` on that ends by `end`, and none is lower
pub record IsLowestPlace (l : Layout) (from end n place : ℕ) : Type 0 where
  pub low : from ≤ place
  pub high : place + n ≤ end
  pub free : IsFree l place n
  pub lowest : HasNoPlace l from place end n

-- ---- laws

-- a change of pages does to the layout what it does to the pages; what changes bytes and marks alone leaves it
pub record LayoutsFollow : Type 0 where
  pub rights : (m : Pages) (k : ℕ) → map.get (layout_of m) k ≡ rights_of m k
  pub count : (m : Pages) → map.len (layout_of m) ≡ map.len m
  pub maps : (m : Pages) (first n : ℕ) (r : Rights) → layout_of (mapped m first n r) ≡ laid (layout_of m) first n (λ l k. map.insert l k r)
  pub unmaps : (m : Pages) (first n : ℕ) → layout_of (unmapped m first n) ≡ laid (layout_of m) first n (λ l k. map.remove l k)
  pub protects : (m : Pages) (first n : ℕ) (r : Rights) → layout_of (protected m first n r) ≡ laid (layout_of m) first n (λ l k. changed l k (λ _. r))
  pub writes : (m : Pages) (at : ℕ) (bytes : List ℕ) → layout_of (written m at bytes) ≡ layout_of m
  pub marks : (m : Pages) (at n : ℕ) → layout_of (marked m at n) ≡ layout_of m

-- memories that are equal but for marked bytes have one layout, and stay equal but for marked bytes where both are changed
-- in one way
pub record StayEqualUnmarked (m w : Pages) : Type 0 where
  pub layout : layout_of m ≡ layout_of w
  pub maps : (first n : ℕ) (r : Rights) → AreEqualUnmarked (mapped m first n r) (mapped w first n r)
  pub unmaps : (first n : ℕ) → AreEqualUnmarked (unmapped m first n) (unmapped w first n)
  pub protects : (first n : ℕ) (r : Rights) → AreEqualUnmarked (protected m first n r) (protected w first n r)
  pub writes : (at : ℕ) (bytes : List ℕ) → AreEqualUnmarked (written m at bytes) (written w at bytes)
