-- A list of texts as it stands in a memory: the addresses of its texts, eight bytes each, and behind them the address 0.
use Rattle.std.specs.Prelude.{◌≡◌, ℕ, ◌+◌, ◌-◌, ◌*◌, ◌≤◌, ◌⊎◌, true, false, nat_eq, List, [], ◌∷◌, length, Ok}
use Rattle.kr_first.specs.pr_base.Fields.{little_endian}
use Rattle.kr_first.specs.rv_mem.Actions.{AreEqualUnmarked, carried_out}
use Rattle.kr_first.specs.rv_mem.Memory.{Memory, text_of}
use Rattle.kr_first.specs.rv_mem.Pages.{IsPlaced, Pages, allows_all, bytes_from}
use Rattle.kr_first.specs.rv_mem.declared.rights.Use.TheVariants.{Read}
use Rattle.kr_first.specs.kr_calls.Expansion.{bytes_with_ends}
use Rattle.kr_first.specs.kr_exec.Lists.{at_least_one, lists_at, most_bytes, most_texts, next_address}
use Rattle.kr_first.specs.kr_exec.declared.lists.Lists.{Lists}

-- an address that may be read
abbrev pub address_in : Pages → ℕ → ℕ
address_in w at = little_endian (bytes_from w at 8)

-- of a text
pub record IsEntry (w : Pages) (at : ℕ) (text : List ℕ) : Type 0 where
  pub allowed : allows_all w at 8 Read ≡ true
  pub some : nat_eq (address_in w at) 0 ≡ false
  pub stands : text_of w (address_in w at) most_bytes ≡ Ok text

pub record IsEnd (w : Pages) (at : ℕ) : Type 0 where
  pub allowed : allows_all w at 8 Read ≡ true
  pub none : address_in w at ≡ 0

abbrev pub IsList : Pages → ℕ → List (List ℕ) → Type 0
IsList w at [] = IsEnd w at
IsList w at (text ∷ texts) = IsEntry w at text × IsList w (next_address at) texts

-- the same without the end
abbrev pub AreEntries : Pages → ℕ → List (List ℕ) → Type 0
AreEntries w at [] = Unit {0}
AreEntries w at (text ∷ texts) = IsEntry w at text × AreEntries w (next_address at) texts

-- at the address 0 an empty one
abbrev pub IsListAt : Pages → ℕ → List (List ℕ) → Type 0
IsListAt w at texts = ((nat_eq at 0 ≡ true) × (texts ≡ [])) ⊎ ((nat_eq at 0 ≡ false) × IsList w at texts)

-- ---- what is read

abbrev pub ReadListsStand : Type 0
ReadListsStand =
    (args env : ℕ) (m : Memory) (lists : Lists) → (carried_out (lists_at args env) m).reply ≡ Ok lists
    → (texts : List (List ℕ)) × IsListAt m.pages args texts × (lists.args ≡ at_least_one texts) × IsListAt m.pages env lists.env

abbrev pub StandingListsAreRead : Type 0
StandingListsAreRead =
    (args env : ℕ) (m : Memory) (texts more : List (List ℕ)) → IsListAt m.pages args texts → IsListAt m.pages env more → length texts ≤ most_texts → length more ≤ most_texts
    → bytes_with_ends (at_least_one texts) + bytes_with_ends more ≤ most_bytes
    → (carried_out (lists_at args env) m).reply ≡ Ok (record { args = at_least_one texts; env = more })

-- ---- copies

abbrev pub ListsAreCopied : Type 0
ListsAreCopied =
    (w : Pages) (from to : ℕ) (texts : List (List ℕ)) → IsPlaced w → AreEntries w from texts → bytes_from w from (8 * length texts) ≡ bytes_from w to (8 * length texts)
    → allows_all w to (8 * length texts) Read ≡ true → IsEnd w (to + 8 * length texts) → IsList w to texts

-- where the kernel has read both lists of one memory, and no marked byte, the addresses behind the first one are the same in another
abbrev pub KeptAddressesAreAlike : Type 0
KeptAddressesAreAlike =
    (args env : ℕ) (m : Memory) (w : Pages) (lists : Lists) → IsPlaced m.pages → (carried_out (lists_at args env) m).reply ≡ Ok lists → (carried_out (lists_at args env) m).memory.read_marked ≡ false → AreEqualUnmarked m.pages w
    → bytes_from m.pages (next_address args) (8 * (length lists.args - 1)) ≡ bytes_from w (next_address args) (8 * (length lists.args - 1))
