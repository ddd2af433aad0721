-- The entries of one directory by themselves, and the serial that the next one takes.
use Rattle.std.specs.Prelude.{◌≡◌, ℕ, ◌+◌, ◌<◌, true, bytes_eq, List, [], ◌∷◌, ◌++◌, map as map_list, refl, Vec, ◌⊎◌}
use Rattle.std.specs.List.{AllByRecursion, IsDistinct}
use Rattle.std.specs.Option.{option_map}
use Rattle.std.specs.Map.{lookup}
use Rattle.std.specs.Coded.{Coded, code_by, coded×, coded_ℕ, coded_list}
use Rattle.kr_inode.specs.Inode.{Entry, entry_code, entry_named}
use Rattle.kr_inode.specs.Names.{is_name}
use Rattle.kr_inode.specs.Changes.{without_name}
use Rattle.kr_inode.specs.declared.entries.Named.{Named}
use Rattle.kr_inode.specs.declared.entries.Slot.{Slot}

pub record Entries : Type 0 where
  pub list : List Entry
  pub next : ℕ

abbrev pub entries_code : Coded Entries
entries_code =
    code_by (List Entry × ℕ) (coded× (coded_list entry_code) coded_ℕ) (λ d. (d.list, d.next)) (λ p. record { list = p.0; next = p.1 }) (λ _. refl)

abbrev pub no_entries : Entries
no_entries = record { list = []; next = 3 }

abbrev pub with_new : List ℕ → ℕ → Entries → Entries
with_new name i d = record { list = d.list ++ (record { name = name; serial = d.next; inode = i }) ∷ []; next = d.next + 1 }

abbrev pub without : List ℕ → Entries → Entries
without name d = record { list = without_name name d.list; next = d.next }

-- an entry stands in a list
abbrev pub IsIn : Entry → List Entry → Type 0
IsIn e [] = ⊥
IsIn e (x ∷ xs) = (x ≡ e) ⊎ IsIn e xs

-- the serials of a list of entries strictly rise from above one up to below another
abbrev pub RisesWithin : ℕ → ℕ → List Entry → Type 0
RisesWithin low next [] = low < next
RisesWithin low next (e ∷ es) = (low < e.serial) × RisesWithin e.serial next es

abbrev pub names_in : List Entry → List (List ℕ)
names_in es = map_list (λ e. e.name) es

-- serials rise from 3 on, no two names are the same, and each name is well-formed
pub record IsListed (d : Entries) : Type 0 where
  pub rises : RisesWithin 2 d.next d.list
  pub distinct : IsDistinct bytes_eq (names_in d.list)
  pub well_formed : AllByRecursion (λ name. is_name name ≡ true) (names_in d.list)

-- what is stored of an entry at its name
abbrev pub slot_of : Entry → Slot
slot_of e = record { serial = e.serial; inode = e.inode }

-- an entry by what is stored at its serial
abbrev pub entry_of : ℕ × Named → Entry
entry_of e = record { name = e.1.name.items; serial = e.0; inode = e.1.inode }

-- the entries that are stored at serials
abbrev pub stored : List (ℕ × Named) → List Entry
stored es = map_list entry_of es

-- what is kept at each name is what is stored of its entry
abbrev pub IsNamed : {Z : Type 0} → List (Vec ℕ Z × Slot) → List Entry → Type 0
IsNamed {Z} ns es = (name : List ℕ) → lookup (λ (k : Vec ℕ Z). bytes_eq name k.items) ns ≡ option_map slot_of (entry_named name es)
