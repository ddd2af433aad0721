-- What an instruction, the decoding of a call or an operation does with a memory, as a tree: each
-- node is one use of the memory, and goes on with what it saw.
use Rattle.std.specs.Prelude.{◌≡◌, ℕ, Bool, true, false, ◌&&◌, List, [], ◌∷◌, length, Option, if◌then◌else◌}
use Rattle.std.specs.FinMap as map
use Rattle.std.specs.Option.{option_map}
use Rattle.rv_mem.specs.declared.rights.Rights.{Rights}
use Rattle.rv_mem.specs.declared.rights.Use.{Use}
use Rattle.rv_mem.specs.declared.rights.Use.TheVariants.{Write}
use Rattle.rv_mem.specs.Pages.{Pages, allows_all, bytes_from, written, byte_at, is_marked, IsWhole}
use Rattle.rv_mem.specs.Memory.{Memory, with_pages, after_read}

pub data Action (A : Type 0) : Type 0 where
  -- nothing is left to do
  Done : A → Action A
  -- may each of the n bytes at an address be used in all of these ways?
  MayUse : (at n : ℕ) → List Use → (Bool → Action A) → Action A
  -- read the n bytes at an address
  ReadBytes : (at n : ℕ) → (List ℕ → Action A) → Action A
  -- write these bytes from an address on
  WriteBytes : (at : ℕ) → List ℕ → Action A → Action A

-- bytes are read only where all these uses are allowed; otherwise nothing is read
abbrev pub read_if_allowed : {A : Type 0} → (at n : ℕ) → List Use → Action A → (List ℕ → Action A) → Action A
read_if_allowed at n uses refused next =
    MayUse at n uses (λ allowed. if allowed then ReadBytes at n next else refused)

-- bytes are written only where all of them may be; otherwise none is
abbrev pub write_if_allowed : {A : Type 0} → (at : ℕ) → List ℕ → Action A → Action A → Action A
write_if_allowed at bytes refused next =
    MayUse at (length bytes) (Write ∷ []) (λ allowed. if allowed then WriteBytes at bytes next else refused)

-- ---- carried out on a memory

-- whether each of n bytes allows all of these uses
abbrev pub allows_uses : Pages → ℕ → ℕ → List Use → Bool
allows_uses m at n [] = true
allows_uses m at n (what ∷ uses) = allows_uses m at n uses && allows_all m at n what

-- the reply, and the memory after it
pub record CarriedOut (A : Type 0) : Type 0 where
  pub reply : A
  pub memory : Memory

-- what is read counts as read, so that a marked byte among it sets the flag; a test reads nothing
abbrev pub carried_out : {A : Type 0} → Action A → Memory → CarriedOut A
carried_out (Done reply) m = record { reply = reply; memory = m }
carried_out (MayUse at n uses next) m = carried_out (next (allows_uses m.pages at n uses)) m
carried_out (ReadBytes at n next) m = carried_out (next (bytes_from m.pages at n)) (after_read m at n)
carried_out (WriteBytes at bytes next) m = carried_out next (with_pages m (written m.pages at bytes))

-- ---- its law

-- the rights of the page at a number, if one is there
abbrev pub rights_of : Pages → ℕ → Option Rights
rights_of m number = option_map (λ p. p.rights) (map.get m number)

-- two memories have the same pages with the same rights, and the same bytes but for those that are
-- marked in the first
pub record AreEqualUnmarked (m w : Pages) : Type 0 where
  pub rights : (k : ℕ) → rights_of m k ≡ rights_of w k
  pub bytes : (a : ℕ) → is_marked m a ≡ false → byte_at m a ≡ byte_at w a
  pub whole : IsWhole m
  pub other_whole : IsWhole w

-- carried out on memories that are equal but for marked bytes, an action that reads no marked byte
-- gives the same reply on both, and leaves them equal but for marked bytes
abbrev pub ReadsAlike : {A : Type 0} → Action A → Type 0
ReadsAlike action =
    (m w : Memory) → AreEqualUnmarked m.pages w.pages → (carried_out action m).memory.read_marked ≡ false
    → ((carried_out action m).reply ≡ (carried_out action w).reply)
    × AreEqualUnmarked (carried_out action m).memory.pages (carried_out action w).memory.pages
