-- Items that are put below an address, each at the highest address divisible by 8 that leaves it below the one before it.
use Rattle.std.specs.Prelude.{ℕ, ◌-◌, ◌*◌, ◌/◌, List, [], ◌∷◌, ◌++◌, length}
use Rattle.pt_args.specs.declared.shelf.Shelf.{Shelf}

-- the bytes below a process's stack pointer that are its shelf
abbrev pub shelf_size : ℕ
shelf_size = 65536

-- the highest such address for `size` bytes
abbrev pub address_below : ℕ → ℕ → ℕ
address_below top size = (top - size) / 8 * 8

-- the items with their addresses
abbrev pub shelved : ℕ → List (List ℕ) → List (ℕ × List ℕ)
shelved top [] = []
shelved top (item ∷ items) = (address_below top (length item), item) ∷ shelved (address_below top (length item)) items

-- a text as an item
abbrev pub with_zero : List ℕ → List ℕ
with_zero text = text ++ 0 ∷ []

-- one item more
abbrev pub with_item : Shelf → List ℕ → Shelf
with_item shelf item = record {
  top = address_below shelf.top (length item);
  items = shelf.items ++ (address_below shelf.top (length item), item) ∷ [];
}
